-- A card that has come up with empty journals agrees with a fresh ledger: the master names the first numbers, no commit
-- of such a number or a higher one lies in a journal, and there is no transaction, no holder and no image in memory.
-- FORMAT and the last RECOVER both leave such a card.
use Rattle.model.proofs.Base.{ℕ, ◌-◌, ◌≤◌, ◌<◌, arith, ◌≡◌, refl, sym, ap, ◌∙◌, false, List, [], flat_map, Memᴰ, length, get_or}
use Rattle.model.proofs.Base.{Bytes, length-map, length-replicate, list_get_or_map, get_or-replicate, below}
use native.Mathlib.Nat.{sub_self}
use Rattle.model.specs.Valid.{in_sequence}
use Rattle.model.specs.Bytes.{block_at}
use Rattle.model.specs.Card.{new_tail, fresh_core, fresh_card, no_holder, tail_of, core_of, holder_of}
use Rattle.model.specs.Layout.{has_head, master_block}
use Rattle.model.specs.Journal.{journal_at}
use Rattle.model.specs.Command.{World}
use Rattle.model.specs.declared.Phase.TheVariants.{Up}
use Rattle.model.specs.declared.Shape.{Shape}
use Rattle.model.specs.declared.Tail.{Tail}
use Rattle.model.specs.declared.Card.{Card}
use Rattle.model.specs.declared.CommitLayout.TheVariants.{Numbers}
use Rattle.model.proofs.Encoding.{master_same}
use Rattle.model.proofs.Limits.{InRange}
use Rattle.crash.specs.Book.{Write, empty_book, book_holder}
use Rattle.crash.specs.Ledger.{fresh_ledger, record_blocks}
use Rattle.crash.specs.Claims.{IsBytes}
use Rattle.crash.proofs.Books.Tests.{impossible}
use Rattle.crash.proofs.Disk.Relation.{WriteFits, contents, JournalStands, DiskStands, CoreUp, CardUp}
use Rattle.crash.proofs.Disk.LedgerFresh.{well_formed_fresh}

-- the journals hold nothing
module _ (s : Shape) (saved : List Write) (first : ℕ → ℕ) (c : ℕ) where
  fresh_contents : contents (fresh_ledger in_sequence s saved first) c ≡ []
  unfolding contents fresh_ledger empty_book below flat_map
  fresh_contents = rw (sub_self (first c))

  fresh_records : record_blocks (empty_book in_sequence first) c (first c) (first c - first c) ≡ 0
  unfolding record_blocks
  fresh_records = rw (sub_self (first c))

-- over a disk where no commit of these numbers lies, the tail at the first position
pub fresh_journal : {s : Shape} {d : Bytes} → InRange s → (first : ℕ → ℕ) (saved : List Write) (c : ℕ) → c < s.cores → (t : Tail) → t ≡ new_tail (first c) 0
    → ((i q : ℕ) → first c ≤ i → has_head 2 i (journal_at s d c q) ≡ false) → JournalStands (fresh_ledger in_sequence s saved first) d c t
unfolding fresh_ledger
fresh_journal {s} r first saved c h t e clear =
    record {
      number = unfold empty_book in ap (λ (t : Tail). t.number) e;
      position = rw e (omega (arith, r.long));
      stands = rw (fresh_contents s saved first c) (λ q k. absurd (omega arith));
      clear = unfold empty_book in clear;
      room = unfold empty_book in omega (arith, fresh_records s saved first c);
      reserved = unfold empty_book in λ k. impossible k;
    }

-- a world with a card that has just come up
pub record ComeUp (s : Shape) (first : ℕ → ℕ) (w : World) : Type 0 where
  pub tails : List Tail
  pub card : w.card ≡ fresh_card Up s tails
  pub eight : length tails ≡ 8
  pub tail : (c : ℕ) → c < s.cores → get_or tails c (new_tail 0 0) ≡ new_tail (first c) 0
  pub memory : length w.memory ≡ 16384
  pub memory_bytes : IsBytes w.memory
  pub size : length w.disk ≡ 32896
  pub bytes : IsBytes w.disk
  pub master : block_at w.disk 0 ≡ master_block Numbers s (λ (c : ℕ). new_tail (first c) 0)
  pub clear : (c : ℕ) → c < s.cores → (i q : ℕ) → first c ≤ i → has_head 2 i (journal_at s w.disk c q) ≡ false

module _ {s : Shape} {first : ℕ → ℕ} {w : World} (r : InRange s) (u : ComeUp s first w) where
  fresh_tail : (c : ℕ) → c < s.cores → tail_of w.card c ≡ new_tail (first c) 0
  unfolding tail_of fresh_card
  fresh_tail c h = ap (λ (x : Card). get_or x.tails c (new_tail 0 0)) u.card ∙ u.tail c h

  fresh_core_lem : (c : ℕ) → c < s.cores → core_of w.card c ≡ fresh_core (first c)
  unfolding core_of fresh_card
  fresh_core_lem c h =
      ap (λ (x : Card). get_or x.cores c (fresh_core 0)) u.card
      ∙ list_get_or_map (λ (t : Tail). fresh_core t.number) u.tails c (new_tail 0 0)
      ∙ ap (λ (t : Tail). fresh_core t.number) (u.tail c h)

  fresh_holder : (b : ℕ) → b < s.blocks → holder_of w.card b ≡ no_holder
  unfolding holder_of fresh_card
  fresh_holder b h = rw u.card (get_or-replicate 64 b no_holder no_holder (omega (arith, r.few_blocks)))

  module _ (saved : List Write) where
    fresh_stands : DiskStands Numbers (fresh_ledger in_sequence s saved first) w.disk (tail_of w.card)
    unfolding fresh_ledger
    fresh_stands =
        record {
          size = u.size;
          bytes = u.bytes;
          master = u.master ∙ master_same Numbers s (λ (c : ℕ). new_tail (first c) 0) (tail_of w.card) (λ c h. sym (fresh_tail c h));
          numbered = λ c h g. refl;
          journals = λ c h. fresh_journal r first saved c h (tail_of w.card c) (fresh_tail c h) (u.clear c h);
        }

    fresh_core_up : (c : ℕ) → c < s.cores → CoreUp (fresh_ledger in_sequence s saved first) w.memory c (core_of w.card c)
    unfolding fresh_ledger empty_book
    fresh_core_up c h =
        rw (fresh_core_lem c h)
        (record {
          next = refl;
          one = omega arith;
          used = sym (fresh_records s saved first c);
          runs = λ k. impossible k;
          idle = λ k. refl;
          closing = λ k. absurd (omega arith);
          stored = λ k. absurd (omega arith);
          copies = λ k. absurd (omega arith);
          none_closing = λ k. refl;
          homed = λ k. absurd (omega arith);
          none_homed = λ k. refl;
        })

    pub fresh_up : ((x : Write) → Memᴰ x saved → WriteFits s x) → ((c : ℕ) → c < s.cores → (1 ≤ first c) × (first c ≤ 4000000001)) → CardUp (fresh_ledger in_sequence s saved first) w
    unfolding fresh_ledger fresh_card empty_book book_holder
    fresh_up fits firsts =
        record {
          phase = ap (λ (x : Card). x.phase) u.card;
          ledger = refl;
          shape = ap (λ (x : Card). x.shape) u.card;
          closes = ap (λ (x : Card). x.closes) u.card;
          memory = u.memory;
          memory_bytes = u.memory_bytes;
          eight_tails = ap (λ (x : Card). length x.tails) u.card ∙ u.eight;
          eight_cores = ap (λ (x : Card). length x.cores) u.card ∙ length-map u.tails (λ (t : Tail). fresh_core t.number) ∙ u.eight;
          holder_room = ap (λ (x : Card). length x.holders) u.card ∙ length-replicate 64 no_holder;
          well_formed = well_formed_fresh s saved first r fits firsts;
          disk = fresh_stands;
          cores = fresh_core_up;
          holders = fresh_holder;
          images = λ b h k. impossible (rw (fresh_holder b h) at k);
        }
