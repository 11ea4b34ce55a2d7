-- FORMAT leaves a card that is up by the fresh ledger, over a disk that is blank but for the master: journals of zeros
-- hold no commit, and each home block is the blank area's. A card that is down over such a disk is the other start:
-- nothing is committed, so recovery has no block to store home and gives the blank area.
use Prim.Native.Nat.{ℕ, ◌+◌, ◌*◌, ◌-◌, ◌≤◌, ◌<◌}
use native.Mathlib.Omega.{arith}
use mathlib.Core.Path.{◌≡◌, refl, sym, ap, ◌∙◌}
use mathlib.Core.Logic.{◌≢◌}
use mathlib.Core.Bool.{true, false}
use mathlib.Core.List.Memᴰ
use mathlib.Core.List.{List, [], Memᴰ}
use lib.ListN.{length, take, drop, replicate, length-replicate, get_or-replicate, replicate-append-replicate}
use lib.Seq.{take_at, drop_at}
use Rattle.model.specs.Lists.{below, any, select}
use Rattle.model.specs.Valid.{Order, in_sequence}
use Rattle.model.specs.Bytes.{Bytes, number, part, be4, block_at, zero_disk, zero_memory}
use Rattle.model.specs.Shape.{in_range, home_block, journal_block}
use Rattle.model.specs.Card.{new_tail}
use Rattle.model.specs.Layout.{has_head, master_block}
use Rattle.model.specs.Journal.{journal_at}
use Rattle.model.specs.Shrink.{shrink, shrink_in}
use Rattle.model.specs.Format.{formatted_disk, formatted}
use Rattle.model.specs.declared.Shape.{Shape}
use Rattle.model.specs.declared.Tail.{Tail}
use Rattle.model.specs.declared.CommitLayout.{CommitLayout}
use Rattle.model.specs.declared.CommitLayout.TheVariants.{Numbers}
use Rattle.model.proofs.Limits.{InRange, range_test}
use Rattle.model.proofs.Store.{length_store, block_stored, block_other}
use Rattle.model.proofs.Journal.{journal_low, home_apart}
use Rattle.model.proofs.Select.{select_mem}
use Rattle.crash.specs.Book.{Write, empty_book, kept_writes, image, blank}
use Rattle.crash.specs.Ledger.{fresh_ledger, unretired, valid_in, blocks_in}
use Rattle.crash.specs.Claims.{IsBytes, from_down, start_world, start_ledger}
use Rattle.crash.proofs.Books.Tests.{clash}
use Rattle.crash.proofs.Disk.BlockBytes.{bytes_store, zero_bytes}
use Rattle.crash.proofs.Disk.Relation.{DiskStands, CardUp, target, CardDown, IsBlock}
use Rattle.crash.proofs.Disk.ReadMaster.{master_block_lem}
use Rattle.crash.proofs.Commands.CardFresh.{ComeUp, fresh_journal, fresh_up}
use Rattle.crash.proofs.Commands.CardCut.{TargetsStand, down_over}

-- ---- blocks of zeros
abbrev zeros : ℕ → Bytes
zeros n = replicate n 0

zero_part : (i n m : ℕ) → take n (drop i (zeros (i + (n + m)))) ≡ zeros n
zero_part i n m =
    ap (λ (s : Bytes). take n (drop i s)) (sym (replicate-append-replicate {A = ℕ} i (n + m) 0))
    ∙ ap (take n) (drop_at (zeros i) (zeros (n + m)) i (length-replicate {A = ℕ} i 0))
    ∙ ap (take n) (sym (replicate-append-replicate {A = ℕ} n m 0))
    ∙ take_at (zeros n) (zeros m) n (length-replicate {A = ℕ} n 0)

zero_block : (n k m : ℕ) → n ≡ 128 * k + (128 + m) → block_at (zeros n) k ≡ zeros 128
unfolding block_at part
zero_block n k m e = rw e (zero_part (128 * k) 128 m)

zero_head : (i : ℕ) → has_head 2 i (zeros 128) ≡ false
unfolding has_head be4 part number
zero_head i = refl

module _ (y : CommitLayout) (s : Shape) (r : InRange s) where
  abbrev format_tail : ℕ → Tail
  format_tail c = new_tail 1 0

  abbrev new_disk : Bytes
  new_disk = formatted_disk y s

  zero_fits : 128 * 0 + 128 ≤ length zero_disk
  unfolding zero_disk
  zero_fits = rw (length-replicate {A = ℕ} 32896 0) (omega arith)

  is_master_lem : IsBlock (master_block y s format_tail)
  is_master_lem = master_block_lem y r format_tail

  -- every block but the master is zero
  format_block : (k : ℕ) → k ≢ 0 → k < 257 → block_at new_disk k ≡ zeros 128
  unfolding formatted_disk
  format_block k ne h =
      block_other zero_disk 0 (master_block y s format_tail) zero_fits is_master_lem.size k ne
      ∙ (unfold zero_disk in zero_block 32896 k (128 * (256 - k)) (omega arith))

  pub format_home : (b : ℕ) → b < s.blocks → block_at new_disk (home_block b) ≡ blank b
  unfolding blank
  format_home b h = format_block (home_block b) (λ e. omega arith) (omega (arith, r.few_blocks))

  format_size : length new_disk ≡ 32896
  unfolding formatted_disk
  format_size = length_store zero_disk 0 (master_block y s format_tail) zero_fits is_master_lem.size ∙ (unfold zero_disk in length-replicate {A = ℕ} 32896 0)

  format_bytes : IsBytes new_disk
  unfolding formatted_disk
  format_bytes = bytes_store zero_disk 0 (master_block y s format_tail) (unfold zero_disk in zero_bytes 32896) is_master_lem.bytes

  format_master : block_at new_disk 0 ≡ master_block y s format_tail
  unfolding formatted_disk
  format_master = block_stored zero_disk 0 (master_block y s format_tail) zero_fits is_master_lem.size

  format_clear : (c : ℕ) → c < s.cores → (i q : ℕ) → 1 ≤ i → has_head 2 i (journal_at s new_disk c q) ≡ false
  format_clear c h i q k =
      let z : journal_at s new_disk c q ≡ zeros 128 =
      unfold journal_at in format_block (journal_block s c q) (λ e. home_apart s c q 0 (omega arith) (sym e)) (journal_low r c q h) in
      ap (has_head 2 i) z ∙ zero_head i

format_comes_up : (s : Shape) → InRange s → ComeUp s (λ (c : ℕ). 1) (formatted s).world
unfolding formatted
format_comes_up s r =
    record {
      tails = replicate 8 (new_tail 1 0);
      card = refl;
      eight = length-replicate 8 (new_tail 1 0);
      tail = λ c h. get_or-replicate 8 c (new_tail 1 0) (new_tail 0 0) (omega (arith, r.few_cores));
      memory = unfold zero_memory in length-replicate {A = ℕ} 16384 0;
      memory_bytes = unfold zero_memory in zero_bytes 16384;
      size = format_size Numbers s r;
      bytes = format_bytes Numbers s r;
      master = format_master Numbers s r;
      clear = format_clear Numbers s r;
    }

pub format_up : (s : Shape) → InRange s → CardUp (fresh_ledger in_sequence s [] (λ (c : ℕ). 1)) (formatted s).world
format_up s r = fresh_up r (format_comes_up s r) [] (λ w m. absurd (Memᴰ.not-nil m)) (λ c h. (omega arith, omega arith))

-- ---- a fresh ledger holds no block, and its kept writes are those saved
fresh_valid : (o : Order) (first : ℕ → ℕ) → valid_in (empty_book o first) ≡ []
unfolding valid_in unretired select shrink shrink_in empty_book
fresh_valid o first = refl

fresh_held : (o : Order) (n : ℕ) (first : ℕ → ℕ) (b : ℕ) → Memᴰ b (blocks_in n (empty_book o first)) → ⊥
unfolding blocks_in any
fresh_held o n first b m = clash (select_mem _ (below n) b m).1 (rw (fresh_valid o first))

fresh_target : (o : Order) (s : Shape) (saved : List Write) (first : ℕ → ℕ) (b : ℕ) → target (fresh_ledger o s saved first) b ≡ image blank saved b
unfolding target fresh_ledger kept_writes select empty_book
fresh_target o s saved first b = refl

fresh_gives : (o : Order) (s : Shape) (saved : List Write) (first : ℕ → ℕ) (d : Bytes) → ((b : ℕ) → b < s.blocks → block_at d (home_block b) ≡ image blank saved b)
    → TargetsStand (fresh_ledger o s saved first) d
unfolding fresh_ledger
fresh_gives o s saved first d h =
    record {
      held = λ b k m. absurd (fresh_held o s.blocks first b m);
      home = λ b k a. h b k ∙ sym (fresh_target o s saved first b);
    }

-- ---- a card that is down over a formatted disk, of either layout: no record stands there
down_stands : (y : CommitLayout) (s : Shape) → InRange s → DiskStands y (fresh_ledger in_sequence s [] (λ (c : ℕ). 1)) (formatted_disk y s) (λ (c : ℕ). new_tail 1 0)
unfolding fresh_ledger
down_stands y s r =
    record {
      size = format_size y s r;
      bytes = format_bytes y s r;
      master = format_master y s r;
      numbered = unfold empty_book in λ c h g. absurd (omega arith);
      journals = λ c h. fresh_journal r (λ (c : ℕ). 1) [] c h (new_tail 1 0) refl (format_clear y s r c h);
    }

pub down_start : (y : CommitLayout) (s : Shape) (m : Bytes) → in_range s.cores s.blocks s.journal ≡ true → IsBytes m → length m ≡ 16384
    → CardDown (start_ledger in_sequence (from_down y s m)) (start_world (from_down y s m))
unfolding start_ledger start_world
down_start y s m h b n =
    let r = range_test s h in
    let u = format_up s r in
    down_over u.well_formed (down_stands y s r) (fresh_gives in_sequence s [] (λ (c : ℕ). 1) (formatted_disk y s) (λ b k. format_home y s r b k ∙ (unfold image in refl))) m n b
