-- CUT leaves a card that is down by the ledger's cut: memory is lost, the disk and the transactions stay as they are.
-- Nothing that recovery reads depends on the phase or on how far recovery is, so journals, the newest images and the
-- area of the kept writes stay; and recovery, starting over, has all held blocks before it.
use Rattle.model.proofs.Base.{ℕ, ◌<◌, arith, ◌≡◌, refl, sym, subst, ◌∙◌, false, List, Memᴰ, length, length-replicate, eqb}
use Rattle.model.proofs.Base.{leb, le-leb, below, any, select, Bytes}
use Rattle.model.specs.Bytes.{block_at, zero_memory}
use Rattle.model.specs.Shape.{home_block}
use Rattle.model.specs.Card.{fresh_card, empty_card, down_card}
use Rattle.model.specs.Command.{World, unstored}
use Rattle.model.specs.declared.Phase.{Phase}
use Rattle.model.specs.declared.Phase.TheVariants.{Down}
use Rattle.model.specs.declared.Tail.{Tail}
use Rattle.model.specs.declared.CommitLayout.{CommitLayout}
use Rattle.model.proofs.Lists.{cases, mem_below}
use Rattle.model.proofs.Select.{select_mem, select_same}
use Rattle.crash.specs.Book.{Book}
use Rattle.crash.specs.Ledger.{Ledger, blocks_in, cut_ledger, record_tags, record_of}
use Rattle.crash.specs.Claims.{IsBytes}
use Rattle.crash.proofs.Disk.Relation.{WellFormed, contents, JournalStands, DiskStands, CardUp, target, Newest, CardDown}
use Rattle.crash.proofs.Books.Tests.{clash, any_in, in_any, block_equality}
use Rattle.crash.proofs.Disk.BlockBytes.{zero_bytes}
use Rattle.crash.proofs.Disk.LedgerFresh.{well_formed_cut, with_phase}

-- ---- the ledger in another phase, with other blocks left
pub target_with_phase : (p : Phase) (bs : List ℕ) (l : Ledger) (b : ℕ) → target (with_phase p bs l) b ≡ target l b
unfolding target
target_with_phase p bs l b = refl

module _ (p : Phase) (bs : List ℕ) {l : Ledger} where
  journal_with_phase : {d : Bytes} {c : ℕ} {t : Tail} → JournalStands l d c t → JournalStands (with_phase p bs l) d c t
  unfolding contents record_of record_tags
  journal_with_phase j = record { number = j.number; position = j.position; stands = j.stands; clear = j.clear; room = j.room; reserved = j.reserved }

  pub stands_with_phase : {y : CommitLayout} {d : Bytes} {tail_at : ℕ → Tail} → DiskStands y l d tail_at → DiskStands y (with_phase p bs l) d tail_at
  stands_with_phase z = record { size = z.size; bytes = z.bytes; master = z.master; numbered = z.numbered; journals = λ c h. journal_with_phase (z.journals c h) }

  pub newest_with_phase : {b : ℕ} → Newest l b → Newest (with_phase p bs l) b
  newest_with_phase {b} n =
      record {
        holder = n.holder;
        valid = n.valid;
        place = n.place;
        within = n.within;
        block = n.block;
        highest = n.highest;
        image = n.image ∙ sym (target_with_phase p bs l b);
      }

-- ---- the blocks held
pub held_low : (n : ℕ) (k : Book) {b : ℕ} → Memᴰ b (blocks_in n k) → b < n
unfolding blocks_in
held_low n k {b} m = mem_below n (select_mem _ (below n) b m).0

-- recovery before its first store has them all left
all_left : (bs : List ℕ) → bs ≡ select (leb 0) bs
all_left bs = sym (select_same (leb 0) bs (λ b m. le-leb 0 b (omega arith)))

-- ---- CUT
-- what the commands before a cut leave to recovery
pub record TargetsStand (l : Ledger) (d : Bytes) : Type 0 where
  pub held : (b : ℕ) → b < l.shape.blocks → Memᴰ b (blocks_in l.shape.blocks l.book) → Newest l b
  pub home : (b : ℕ) → b < l.shape.blocks → any (eqb b) (blocks_in l.shape.blocks l.book) ≡ false → block_at d (home_block b) ≡ target l b

module _ {y : CommitLayout} {l : Ledger} {d : Bytes} {tail_at : ℕ → Tail} (f : WellFormed l) (z : DiskStands y l d tail_at) (g : TargetsStand l d) where
  -- a card that is down over such a disk
  pub down_over : (m : Bytes) → length m ≡ 16384 → IsBytes m → CardDown (cut_ledger l) (record { card = down_card; disk = d; memory = m })
  unfolding cut_ledger down_card empty_card fresh_card
  down_over m n b =
      let bs = blocks_in l.shape.blocks l.book in
      record {
        phase = refl;
        ledger = refl;
        memory = n;
        memory_bytes = b;
        well_formed = well_formed_cut l f;
        layout = y;
        tail_at = tail_at;
        disk = stands_with_phase Down bs z;
        left = all_left bs;
        newest = λ i h. newest_with_phase Down bs (g.held i (held_low l.shape.blocks l.book h) h);
        at_home = λ i h a. g.home i h a ∙ sym (target_with_phase Down bs l i);
      }

  cut_over : CardDown (cut_ledger l) (record { card = down_card; disk = d; memory = zero_memory })
  unfolding zero_memory
  cut_over = down_over zero_memory (length-replicate {A = ℕ} 16384 0) (zero_bytes 16384)

pub cut_up : {l : Ledger} {w : World} → CardUp l w → TargetsStand l w.disk → CardDown (cut_ledger l) (unstored w down_card zero_memory).world
cut_up u g = cut_over u.well_formed u.disk g

-- 'a recovery under way starts over'
pub down_gives : {l : Ledger} {w : World} → CardDown l w → TargetsStand l w.disk
down_gives {l} {w} v =
    let bs = blocks_in l.shape.blocks l.book in
    record {
      held = λ b h m. v.newest b m;
      home =
          λ b h a.
          v.at_home b h
          (cases (any (eqb b) l.left)
          (λ y.
          let q : Memᴰ b (select (leb w.card.recovered) bs) = subst (Memᴰ b) v.left (any_in block_equality b l.left y) in
          clash (in_any block_equality (select_mem (leb w.card.recovered) bs b q).0) a)
          (λ y. y));
    }

pub cut_down : {l : Ledger} {w : World} → CardDown l w → CardDown (cut_ledger l) (unstored w down_card zero_memory).world
cut_down v = cut_over v.well_formed v.disk (down_gives v)
