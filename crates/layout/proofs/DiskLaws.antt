-- A slice zeroed from the front is all zeros at its end: the zeroed disk, the zeroed memory. A home block that was lent and
-- written is a store to it.
use Rattle.model.proofs.Base.{ℕ, ◌+◌, ◌-◌, ◌*◌, ◌≤◌, ◌<◌, arith, ◌≡◌, refl, sym, ap, ◌∙◌, List, ◌++◌, append-nil, length, take, drop}
use Rattle.model.proofs.Base.{set, replicate, length-set, Bytes}
use lib.Seq.{drop-length}
use borrow.Author.Fill.{fill_none, fill_more}
use borrow.Author.Rules.{rules}
use Rattle.model.specs.Bytes.{store, zero_disk, zero_memory}
use Rattle.model.specs.Shape.{home_block}
use Rattle.layout.proofs.Blocks.{block_lent}

-- ---- numbers zeroed one after another
-- s is d with its first i numbers zero
pub record Zeroed (d s : List ℕ) (i : ℕ) : Type 0 where
  pub most : i ≤ length d
  pub size : length s ≡ length d
  pub same : s ≡ replicate i 0 ++ drop i d

module _ (d : List ℕ) where
  pub zeroed_none : Zeroed d d 0
  zeroed_none = record { most = omega arith; size = refl; same = fill_none d 0 }

  module _ (s : List ℕ) (i : ℕ) (z : Zeroed d s i) where
    pub zeroed_more : i < length s → Zeroed d (set s i 0) (i + 1)
    zeroed_more h =
        let l : i < length d = omega (arith, z.size) in
        record {
          most = omega arith;
          size = length-set s i 0 ∙ z.size;
          same = ap (λ (l : List ℕ). set l i 0) z.same ∙ fill_more i 0 d l;
        }

    pub zeroed_all : length s ≤ i → s ≡ replicate (length d) 0
    zeroed_all h = let q : i ≡ length d = omega (arith, z.most, z.size) in z.same ∙ rw (q, drop-length, append-nil)

pub ruleset zeroed = (rules, zeroed_none, zeroed_more, zeroed_all)

-- slices of their lengths, zeroed
pub zero_memory_lem : (m : Bytes) → length m ≡ 16384 → replicate (length m) 0 ≡ zero_memory
unfolding zero_memory
zero_memory_lem m h = ap (λ (n : ℕ). replicate n 0) h

pub zero_disk_lem : (d : Bytes) → length d ≡ 32896 → replicate (length d) 0 ≡ zero_disk
unfolding zero_disk
zero_disk_lem d h = ap (λ (n : ℕ). replicate n 0) h

-- ---- a block written
-- a part as long as a block, written as a whole
pub whole_lent : (p b n : Bytes) → length p ≡ 128 → b ≡ n → b ++ drop 128 p ≡ n
whole_lent p b n h e = ap (λ (k : ℕ). b ++ drop k p) (sym h) ∙ (ap (λ (l : Bytes). b ++ l) (drop-length p) ∙ (append-nil b ∙ e))

-- what a writer made of a home block is a store
pub home_lent : (d : Bytes) (b : ℕ) (image : Bytes) (k : ℕ) → k ≡ home_block b → (w : Bytes) → w ≡ image
    → take (128 * k) d ++ (w ++ drop (128 * k + 128 - 128 * k) (drop (128 * k) d)) ≡ store d (home_block b) image
home_lent d b image k r w z = block_lent d k w image z ∙ rw r
