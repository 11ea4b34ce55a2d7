-- What `undone` leaves of any stores, also where a block was stored more than once: the disk before them with those made, in their order,
-- that are not marked.
use Prim.Native.Nat.{ℕ, suc, ◌+◌, ◌*◌, ◌≤◌, ◌<◌}
use native.Mathlib.Omega.{arith}
use native.Mathlib.Decide.{ℕ_discrete}
use mathlib.Core.Path.{◌≡◌, refl, sym, ap, ◌∙◌}
use mathlib.Core.Logic.{◌≢◌}
use mathlib.Core.Bool.{Bool, true, false, cond, not, ◌&&◌}
use mathlib.Core.List.{List, [], ◌∷◌, map}
use lib.ListN.{length}
use lib.Dec.{eqb}
use borrow.Author.Tests.{eqb-true, eqb-false}
use Rattle.model.specs.Lists.{Each}
use Rattle.model.specs.Bytes.{Bytes, block_at, store}
use Rattle.model.specs.Command.{BlockStore}
use Rattle.model.proofs.Lists.{cases, or_none}
use Rattle.model.proofs.Store.{length_store, block_stored, block_other, length_block_at, ext_blocks}
use Rattle.crash.proofs.Books.Tests.{clash}
use Rattle.drive.specs.Undone.{stands_later, undone}

-- these stores made in order, the i-th first, but for the marked ones
abbrev pub made_but : (ℕ → Bool) → ℕ → List BlockStore → Bytes → Bytes
made_but marked i [] d = d
made_but marked i (b ∷ bs) d = made_but marked (suc i) bs (cond (marked i) d (store d b.place b.bytes))

abbrev pub none_marked : ℕ → Bool
none_marked i = false

abbrev pub places_of : List BlockStore → List ℕ
places_of bs = map (λ (b : BlockStore). b.place) bs

-- each is of a block of the disk
abbrev pub StoresFit : List BlockStore → Type 0
StoresFit bs = Each (λ (b : BlockStore). (b.place < 257) × (length b.bytes ≡ 128)) bs

-- the image that each replaced lies at its place in the order
abbrev pub ImagesFound : ℕ → List BlockStore → Bytes → Bytes → Type 0
ImagesFound i [] old d = Unit {0}
ImagesFound i (b ∷ bs) old d = (block_at old i ≡ block_at d b.place) × ImagesFound (suc i) bs old (store d b.place b.bytes)

-- ---- block k afterwards, which was x
abbrev block_after : (ℕ → Bool) → ℕ → List BlockStore → ℕ → Bytes → Bytes
block_after marked i [] k x = x
block_after marked i (b ∷ bs) k x = block_after marked (suc i) bs k (cond (eqb k b.place && not (marked i)) b.bytes x)

module _ (marked : ℕ → Bool) where
  later_none : (i : ℕ) (bs : List BlockStore) (k : ℕ) (x : Bytes) → stands_later marked k i (places_of bs) ≡ false → block_after marked i bs k x ≡ x
  unfolding stands_later
  later_none i [] k x h = refl
  later_none i (b ∷ bs) k x h = let n = or_none (eqb k b.place && not (marked i)) (stands_later marked k (suc i) (places_of bs)) h in rw n.0 (later_none (suc i) bs k x n.1)

  later_some : (i : ℕ) (bs : List BlockStore) (k : ℕ) (x y : Bytes) → stands_later marked k i (places_of bs) ≡ true → block_after marked i bs k x ≡ block_after marked i bs k y
  unfolding stands_later
  later_some i [] k x y h = clash h refl
  later_some i (b ∷ bs) k x y h =
      cases (eqb k b.place && not (marked i)) (λ a. rw a refl) (λ a. rw a (later_some (suc i) bs k x y (rw a at h)))

  -- one store
  size_one : (i : ℕ) (b : BlockStore) (d : Bytes) → length d ≡ 32896 → (b.place < 257) × (length b.bytes ≡ 128)
      → length (cond (marked i) d (store d b.place b.bytes)) ≡ 32896
  size_one i b d size f = cases (marked i) (λ a. rw a size) (λ a. rw a (length_store d b.place b.bytes (omega (arith, f.0)) f.1 ∙ size))

  block_one : (i : ℕ) (b : BlockStore) (d : Bytes) → length d ≡ 32896 → (b.place < 257) × (length b.bytes ≡ 128) → (k : ℕ)
      → block_at (cond (marked i) d (store d b.place b.bytes)) k ≡ cond (eqb k b.place && not (marked i)) b.bytes (block_at d k)
  block_one i b d size f k =
      let fits : 128 * b.place + 128 ≤ length d = omega (arith, f.0) in
      cases (marked i)
      (λ a. cases (eqb k b.place) (λ e. rw (a, e) refl) (λ e. rw (a, e) refl))
      (λ a. cases (eqb k b.place)
      (λ e. rw (a, e) (ap (block_at (store d b.place b.bytes)) (eqb-true k b.place e) ∙ block_stored d b.place b.bytes fits f.1))
      (λ e. rw (a, e) (block_other d b.place b.bytes fits f.1 k (eqb-false k b.place e))))

  pub made_size : (i : ℕ) (bs : List BlockStore) (d : Bytes) → length d ≡ 32896 → StoresFit bs → length (made_but marked i bs d) ≡ 32896
  made_size i [] d size f = size
  made_size i (b ∷ bs) d size f = made_size (suc i) bs _ (size_one i b d size f.0) f.1

  made_block : (i : ℕ) (bs : List BlockStore) (d : Bytes) → length d ≡ 32896 → StoresFit bs → (k : ℕ) → block_at (made_but marked i bs d) k ≡ block_after marked i bs k (block_at d k)
  made_block i [] d size f k = refl
  made_block i (b ∷ bs) d size f k =
      made_block (suc i) bs _ (size_one i b d size f.0) f.1 k ∙ ap (block_after marked (suc i) bs k) (block_one i b d size f.0 k)

-- ---- the marked ones undone
module _ (marked : ℕ → Bool) (old : Bytes) where
  -- without the first store, a marked one
  module _ (j : ℕ) (b : BlockStore) (bs : List BlockStore) (d : Bytes) (size : length d ≡ 32896) (f : StoresFit (b ∷ bs)) (found : block_at old j ≡ block_at d b.place) where
    abbrev p : ℕ
    p = b.place

    abbrev d₁ : Bytes
    d₁ = store d p b.bytes

    fits : 128 * p + 128 ≤ length d
    fits = omega (arith, f.0.0)

    size₁ : length d₁ ≡ 32896
    size₁ = length_store d p b.bytes fits f.0.1 ∙ size

    abbrev e : Bytes
    e = made_but marked (suc j) bs d₁

    abbrev e₀ : Bytes
    e₀ = made_but marked (suc j) bs d

    other : (k : ℕ) → k ≢ p → block_at e k ≡ block_at e₀ k
    other k ne =
        made_block marked (suc j) bs d₁ size₁ f.1 k ∙ ap (block_after marked (suc j) bs k) (block_other d p b.bytes fits f.0.1 k ne)
        ∙ sym (made_block marked (suc j) bs d size f.1 k)

    -- a later one that is not marked was of its block
    replaced_later : stands_later marked p (suc j) (places_of bs) ≡ true → e ≡ e₀
    replaced_later h =
        ext_blocks 257 e e₀ (made_size marked (suc j) bs d₁ size₁ f.1) (made_size marked (suc j) bs d size f.1)
        (λ k low. elim (ℕ_discrete k p) [
          | yes q ↦ rw q (made_block marked (suc j) bs d₁ size₁ f.1 p ∙ later_some marked (suc j) bs p (block_at d₁ p) (block_at d p) h ∙ sym (made_block marked (suc j) bs d size f.1 p))
          | no ne ↦ other k ne
        ])

    -- none was: its block gets back what was there
    undone_first : stands_later marked p (suc j) (places_of bs) ≡ false → store e p (block_at old j) ≡ e₀
    undone_first h =
        let long : length e ≡ 32896 = made_size marked (suc j) bs d₁ size₁ f.1 in
        let room : 128 * p + 128 ≤ length e = omega (arith, f.0.0) in
        let was : length (block_at old j) ≡ 128 = ap length found ∙ length_block_at 257 d size p f.0.0 in
        ext_blocks 257 (store e p (block_at old j)) e₀ (length_store e p (block_at old j) room was ∙ long) (made_size marked (suc j) bs d size f.1)
        (λ k low. elim (ℕ_discrete k p) [
          | yes q ↦ rw q
              (block_stored e p (block_at old j) room was ∙ found
              ∙ sym (made_block marked (suc j) bs d size f.1 p ∙ later_none marked (suc j) bs p (block_at d p) h))
          | no ne ↦ block_other e p (block_at old j) room was k ne ∙ other k ne
        ])

  -- The stores made and the marked ones undone: those made that are not marked.
  pub undone_made : (i : ℕ) (bs : List BlockStore) (d : Bytes) → length d ≡ 32896 → StoresFit bs → ImagesFound i bs old d
      → undone marked i (places_of bs) old (made_but none_marked i bs d) ≡ made_but marked i bs d
  unfolding undone
  undone_made i [] d size f found = refl
  undone_made i (b ∷ bs) d size f found =
      let d₁ = store d b.place b.bytes in
      let rest = undone_made (suc i) bs d₁ (size₁ i b bs d size f found.0) f.1 found.1 in
      rw rest
      (cases (marked i)
      (λ a. cases (stands_later marked b.place (suc i) (places_of bs))
      (λ l. rw (a, l) (replaced_later i b bs d size f found.0 l))
      (λ l. rw (a, l) (undone_first i b bs d size f found.0 l)))
      (λ a. rw a refl))
