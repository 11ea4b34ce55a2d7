-- A number of four bytes that is below 256 is the last of them, at any place in a block. So the blocks of a descriptor are read as bytes
-- once they have passed the range test.
use Rattle.model.proofs.Base.{ℕ, ◌+◌, ◌*◌, ◌≤◌, ◌<◌, arith, ◌≡◌, sym, ◌∙◌, Bool, false, not, length, get_or, ltb-true, not-false, below, Bytes}
use Rattle.model.specs.Bytes.{be4}
use Rattle.model.specs.Layout.{new_tag, pair_at, is_tag}
use Rattle.model.specs.declared.Shape.{Shape}
use Rattle.model.proofs.Words.{be4_get_or}
use Rattle.model.proofs.Lists.{and_left, all_mem, below_mem}
use Rattle.layout.specs.Loops.{every}
use Rattle.layout.specs.Narrow.{BlocksBelow}

pub last_byte : (b : Bytes) (at : ℕ) → at + 4 ≤ length b → be4 b at < 256 → get_or b (at + 3) 0 ≡ be4 b at
last_byte b at l h = omega (arith, be4_get_or b at l)

-- so of the i-th block of a descriptor
pub byte_is : (b : Bytes) (i : ℕ) → length b ≡ 128 → i < 8 → (pair_at new_tag b 16 i).block < 256 → get_or b (16 + 8 * i + 3) 0 ≡ (pair_at new_tag b 16 i).block
unfolding pair_at
byte_is b i l h q = last_byte b (16 + 8 * i) (omega arith) q

-- ---- the first blocks of a descriptor, in the forms in which the loops ask for them
module _ (m : ℕ) (b : Bytes) where
  pub block_below : (n : ℕ) → BlocksBelow m b n → (i : ℕ) → i < n → (pair_at new_tag b 16 i).block < m
  unfolding BlocksBelow
  block_below n w i h = w i h

  module _ (i : ℕ) where
    pub first_below : (n : ℕ) → BlocksBelow m b n → i < n → BlocksBelow m b (i + 1)
    unfolding BlocksBelow
    first_below n w h j l = w j (omega arith)

    module _ (w : BlocksBelow m b (i + 1)) where
      pub last_below : (pair_at new_tag b 16 i).block < m
      last_below = block_below (i + 1) w i (omega arith)

      pub earlier_below : (j : ℕ) → j < i → (pair_at new_tag b 16 j).block < m
      earlier_below j h = block_below (i + 1) w j (omega arith)

  pub below_higher : (n : ℕ) → BlocksBelow m b n → (k : ℕ) → m ≤ k → BlocksBelow k b n
  unfolding BlocksBelow
  below_higher n w k h i l = let q = w i l in omega arith

-- those that have passed the range test; B is a byte
pub tags_below : (s : Shape) (b : Bytes) (n : ℕ) (r : Bool) → r ≡ every n (λ (i : ℕ). is_tag s (pair_at new_tag b 16 i)) → not r ≡ false → s.blocks < 256 → BlocksBelow 256 b n
unfolding BlocksBelow every is_tag
tags_below s b n r e z l i h =
    let t = all_mem (λ (j : ℕ). is_tag s (pair_at new_tag b 16 j)) (below n) (sym e ∙ not-false r z) (below_mem n i h) in
    let q : (pair_at new_tag b 16 i).block < s.blocks = ltb-true (pair_at new_tag b 16 i).block s.blocks (and_left _ _ t) in
    omega arith
