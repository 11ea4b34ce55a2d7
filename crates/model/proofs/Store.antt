-- What a store changes, and what it leaves: the block stored is read back, every other block stays, and a disk is
-- known by its blocks. Of two stores to one block the last counts.
use Prim.Native.Nat.{ℕ, zero, suc, ◌+◌, ◌*◌, ◌-◌, ◌≤◌, ◌<◌}
use native.Mathlib.Omega.{arith}
use mathlib.Core.Path.{◌≡◌, refl, ap, ◌∙◌, sym, subst, ap₂}
use mathlib.Core.Logic.{◌≢◌}
use mathlib.Core.List.{[], ◌∷◌, ◌++◌}
use lib.ListN.{length, take, drop, length-append, length-take, length-drop, take-append-drop}
use lib.Seq.{length-take-le, take_at, drop_at, take-append-le, drop-append-le, drop-drop}
use native.Mathlib.Decide.{dec_lt, ℕ_discrete}
use Rattle.model.specs.Bytes.{Bytes, part, replaced, block_at, store}

-- ---- any part replaced
module _ (at n : ℕ) (d b : Bytes) (fits : at + n ≤ length d) (size : length b ≡ n) where
  pub length_replaced : length (replaced at n d b) ≡ length d
  unfolding replaced
  length_replaced = simp (length-append, length-take, length-drop) (omega arith)

  drop_replaced : drop (at + n) (replaced at n d b) ≡ drop (at + n) d
  unfolding replaced
  drop_replaced =
      sym (drop-drop n at (replaced at n d b))
      ∙ ap (drop n) (drop_at (take at d) (b ++ drop n (drop at d)) at (length-take-le at d (omega arith)))
      ∙ drop_at b (drop n (drop at d)) n size
      ∙ drop-drop n at d

  pub part_replaced : part at n (replaced at n d b) ≡ b
  unfolding replaced part
  part_replaced =
      ap (take n) (drop_at (take at d) (b ++ drop n (drop at d)) at (length-take-le at d (omega arith)))
      ∙ take_at b (drop n (drop at d)) n size

  pub part_after : (i m : ℕ) → at + n ≤ i → part i m (replaced at n d b) ≡ part i m d
  unfolding part
  part_after i m h =
      let e : at + n + (i - (at + n)) ≡ i = omega arith in
      let go : (l : Bytes) → drop i l ≡ drop (i - (at + n)) (drop (at + n) l) = λ l. sym (drop-drop (i - (at + n)) (at + n) l ∙ ap (λ (k : ℕ). drop k l) e) in
      ap (take m) (go (replaced at n d b) ∙ ap (drop (i - (at + n))) drop_replaced ∙ sym (go d))

front : (i m : ℕ) (x y : Bytes) → i + m ≤ length x → part i m (x ++ y) ≡ part i m x
unfolding part
front i m x y h =
    ap (take m) (drop-append-le i x y (omega arith))
    ∙ take-append-le m (drop i x) y (simp length-drop (omega arith))

pub part_before : (at n : ℕ) (d b : Bytes) → at ≤ length d → (i m : ℕ) → i + m ≤ at → part i m (replaced at n d b) ≡ part i m d
unfolding replaced
part_before at n d b fits i m h =
    let k : i + m ≤ length (take at d) = simp length-take (omega arith) in
    front i m (take at d) (b ++ drop n (drop at d)) k
    ∙ sym (front i m (take at d) (drop at d) k)
    ∙ ap (part i m) (take-append-drop at d)

-- ---- blocks
module _ (d : Bytes) (k : ℕ) (b : Bytes) (fits : 128 * k + 128 ≤ length d) (size : length b ≡ 128) where
  pub length_store : length (store d k b) ≡ length d
  unfolding store
  length_store = length_replaced (128 * k) 128 d b fits size

  pub block_stored : block_at (store d k b) k ≡ b
  unfolding store block_at
  block_stored = part_replaced (128 * k) 128 d b fits size

  pub block_other : (j : ℕ) → j ≢ k → block_at (store d k b) j ≡ block_at d j
  unfolding store block_at
  block_other j ne =
      elim (dec_lt j k) [
        | yes lt ↦ part_before (128 * k) 128 d b (omega arith) (128 * j) 128 (omega arith)
        | no ge ↦ part_after (128 * k) 128 d b fits size (128 * j) 128 (omega arith)
      ]

pub length_block_at : (n : ℕ) (d : Bytes) → length d ≡ 128 * n → (k : ℕ) → k < n → length (block_at d k) ≡ 128
unfolding block_at part
length_block_at n d l k h = simp (length-take, length-drop) (omega arith)

-- a block of the rest
block_suc : (d : Bytes) (k : ℕ) → block_at (drop 128 d) k ≡ block_at d (suc k)
unfolding block_at part
block_suc d k =
    let e : 128 + 128 * k ≡ 128 * suc k = omega arith in
    ap (take 128) (drop-drop (128 * k) 128 d ∙ ap (λ (n : ℕ). drop n d) e)

-- two disks are equal by their blocks
pub ext_blocks : (n : ℕ) (d e : Bytes) → length d ≡ 128 * n → length e ≡ 128 * n → ((k : ℕ) → k < n → block_at d k ≡ block_at e k) → d ≡ e
unfolding block_at part
ext_blocks zero [] [] p q h = refl
ext_blocks zero [] (y ∷ ys) p q h = absurd (omega arith)
ext_blocks zero (x ∷ xs) e p q h = absurd (omega arith)
ext_blocks (suc n) d e p q h =
    sym (take-append-drop 128 d)
    ∙ ap₂ ◌++◌ (h 0 (omega arith))
    (ext_blocks n (drop 128 d) (drop 128 e) (simp length-drop (omega arith)) (simp length-drop (omega arith))
    (λ k l. block_suc d k ∙ h (suc k) (omega arith) ∙ sym (block_suc e k)))
    ∙ take-append-drop 128 e

-- ---- two stores
module _ (n : ℕ) (d : Bytes) (len : length d ≡ 128 * n) (k : ℕ) (a : Bytes) (ka : k < n) (sa : length a ≡ 128) where
  fits : 128 * k + 128 ≤ length d
  fits = omega arith

  pub store_twice : (b : Bytes) → length b ≡ 128 → store (store d k a) k b ≡ store d k b
  store_twice b sb =
      let l : length (store d k a) ≡ length d = length_store d k a fits sa in
      let g : 128 * k + 128 ≤ length (store d k a) = omega (arith, fits) in
      ext_blocks n (store (store d k a) k b) (store d k b) (length_store (store d k a) k b g sb ∙ l ∙ len) (length_store d k b fits sb ∙ len)
      (λ j h.
      elim (ℕ_discrete j k) [
        | yes e ↦ subst (λ (i : ℕ). block_at (store (store d k a) k b) i ≡ block_at (store d k b) i) (sym e)
            (block_stored (store d k a) k b g sb ∙ sym (block_stored d k b fits sb))
        | no ne ↦ block_other (store d k a) k b g sb j ne ∙ block_other d k a fits sa j ne ∙ sym (block_other d k b fits sb j ne)
      ])
