-- CUT LOSING on bytes: from the last store back, each marked one whose block no later unmarked store has replaced gets back the
-- image that it replaced. Where no block was stored twice, each block is then the one that a marked store replaced, or as it was.
use Prim.Native.Nat.{ℕ, zero, suc, ◌+◌, ◌*◌, ◌≤◌, ◌<◌}
use native.Mathlib.Omega.{arith}
use native.Mathlib.Decide.{dec_lt, ℕ_discrete}
use mathlib.Core.Path.{◌≡◌, refl, sym, ap, ◌∙◌}
use mathlib.Core.Logic.{◌⊎◌, inl, inr, ◌≢◌}
use mathlib.Core.Bool.{Bool, true, false, So, cond, not, ◌&&◌}
use mathlib.Core.List.{List, [], ◌∷◌, ◌++◌}
use lib.ListN.{length, get_or, length-append, get_or-append}
use lib.Seq.{get_or_at}
use borrow.Author.Tests.{ne_eqb}
use Rattle.model.specs.Bytes.{Bytes, block_at, store}
use Rattle.model.proofs.Lists.{cases}
use Rattle.model.proofs.Store.{length_store, block_stored, block_other, length_block_at}
use Rattle.crash.specs.Claims.{IsBytes}
use Rattle.drive.specs.Undone.{stands_later, undone}
use Rattle.crash.proofs.Books.Tests.{clash}
use Rattle.crash.proofs.Disk.BlockBytes.{bytes_store, bytes_block_at}

-- ---- what it leaves
abbrev pub Apart : List ℕ → Type 0
Apart ps = (i j : ℕ) → i < length ps → j < length ps → get_or ps i 0 ≡ get_or ps j 0 → i ≡ j

-- one block more
pub apart_more : (ps : List ℕ) (k : ℕ) → Apart ps → ((j : ℕ) → j < length ps → get_or ps j 0 ≢ k) → Apart (ps ++ (k ∷ []))
apart_more ps k apart fresh i j a b e =
    elim (dec_lt i (length ps)) [
      | yes hi ↦ elim (dec_lt j (length ps)) [
        | yes hj ↦ apart i j hi hj (sym (at_old i hi) ∙ e ∙ at_old j hj)
        | no hj ↦ absurd (fresh i hi (sym (at_old i hi) ∙ e ∙ last_at j b (omega arith)))
      ]
      | no hi ↦ elim (dec_lt j (length ps)) [
        | yes hj ↦ absurd (fresh j hj (sym (at_old j hj) ∙ sym e ∙ last_at i a (omega arith)))
        | no hj ↦ omega (arith, long)
      ]
    ]
  where
    long : length (ps ++ (k ∷ [])) ≡ suc (length ps)
    long = (let e = length-append ps (k ∷ []) in omega arith)

    at_old : (j : ℕ) → j < length ps → get_or (ps ++ (k ∷ [])) j 0 ≡ get_or ps j 0
    at_old j h = get_or-append ps (k ∷ []) 0 j h

    last_at : (j : ℕ) → j < length (ps ++ (k ∷ [])) → length ps ≤ j → get_or (ps ++ (k ∷ [])) j 0 ≡ k
    last_at j h ge = let q : j ≡ length ps = omega (arith, long) in ap (λ (i : ℕ). get_or (ps ++ (k ∷ [])) i 0) q ∙ get_or_at ps k [] 0 (length ps) refl

module _ (marked : ℕ → Bool) (old d : Bytes) (size : length d ≡ 32896) (old_size : length old ≡ 8192) where
  abbrev Low : List ℕ → Type 0
  Low ps = (j : ℕ) → j < length ps → get_or ps j 0 < 257

  tail_apart : (p : ℕ) (ps : List ℕ) → Apart (p ∷ ps) → Apart ps
  tail_apart p ps h i j a b e = let q : suc i ≡ suc j = h (suc i) (suc j) (omega arith) (omega arith) e in omega arith

  none_later : (p : ℕ) (ps : List ℕ) (i : ℕ) → ((j : ℕ) → j < length ps → get_or ps j 0 ≢ p) → stands_later marked p i ps ≡ false
  unfolding stands_later
  none_later p [] i h = refl
  none_later p (q ∷ qs) i h =
      rw (ne_eqb p q (λ e. h 0 (omega arith) (sym e))) (none_later p qs (suc i) (λ j a. h (suc j) (omega arith)))

  head_apart : (p : ℕ) (ps : List ℕ) → Apart (p ∷ ps) → (j : ℕ) → j < length ps → get_or ps j 0 ≢ p
  head_apart p ps h j a e = let q : 0 ≡ suc j = h 0 (suc j) (omega arith) (omega arith) (sym e) in omega arith

  old_block : (i : ℕ) → i < 64 → length (block_at old i) ≡ 128
  old_block i h = length_block_at 64 old (omega arith) i h

  undone_cons : (i p : ℕ) (ps : List ℕ) → Apart (p ∷ ps) → undone marked i (p ∷ ps) old d ≡ cond (marked i) (store (undone marked (suc i) ps old d) p (block_at old i)) (undone marked (suc i) ps old d)
  unfolding undone
  undone_cons i p ps h =
      rw (none_later p ps (suc i) (head_apart p ps h)) (cases (marked i) (λ a. rw a refl) (λ a. rw a refl))

  pub undone_size : (i : ℕ) (ps : List ℕ) → i + length ps ≤ 64 → Low ps → Apart ps → length (undone marked i ps old d) ≡ 32896
  unfolding undone
  undone_size i [] n low apart = size
  undone_size i (p ∷ ps) n low apart =
      let rest = undone_size (suc i) ps (omega arith) (λ j h. low (suc j) (omega arith)) (tail_apart p ps apart) in
      let fits : 128 * p + 128 ≤ length (undone marked (suc i) ps old d) = omega (arith, low 0 (omega arith)) in
      rw (undone_cons i p ps apart)
      (cases (marked i) (λ a. rw a (length_store (undone marked (suc i) ps old d) p (block_at old i) fits (old_block i (omega arith)) ∙ rest)) (λ a. rw a rest))

  -- the block of a marked store has the image that it replaced; any other is as it was
  pub undone_marked : (i : ℕ) (ps : List ℕ) → i + length ps ≤ 64 → Low ps → Apart ps
      → (j : ℕ) → j < length ps → So (marked (i + j)) → block_at (undone marked i ps old d) (get_or ps j 0) ≡ block_at old (i + j)
  undone_marked i [] n low apart j h m = absurd (omega arith)
  undone_marked i (p ∷ ps) n low apart j h m =
      let e = undone marked (suc i) ps old d in
      let rest = undone_size (suc i) ps (omega arith) (λ j h. low (suc j) (omega arith)) (tail_apart p ps apart) in
      let fits : 128 * p + 128 ≤ length e = omega (arith, low 0 (omega arith)) in
      let b = old_block i (omega arith) in
      rw (undone_cons i p ps apart)
      (go j h m e fits b
      (λ j h m. undone_marked (suc i) ps (omega arith) (λ j h. low (suc j) (omega arith)) (tail_apart p ps apart) j h m))
    where
      go : (j : ℕ) → j < suc (length ps) → So (marked (i + j)) → (e : Bytes) → 128 * p + 128 ≤ length e → length (block_at old i) ≡ 128
          → ((j : ℕ) → j < length ps → So (marked (suc i + j)) → block_at e (get_or ps j 0) ≡ block_at old (suc i + j))
          → block_at (cond (marked i) (store e p (block_at old i)) e) (get_or (p ∷ ps) j 0) ≡ block_at old (i + j)
      go zero h m e fits b f =
          let z : i + 0 ≡ i = omega arith in
          let a : marked i ≡ true = rw z at m in
          rw (a, z) (block_stored e p (block_at old i) fits b)
      go (suc j) h m e fits b f =
          let z : i + suc j ≡ suc i + j = omega arith in
          let y = f j (omega arith) (rw z at m) in
          cases (marked i)
          (λ a. rw (a, z) (block_other e p (block_at old i) fits b (get_or ps j 0) (head_apart p ps apart j (omega arith)) ∙ y))
          (λ a. rw (a, z) y)

  pub undone_other : (i : ℕ) (ps : List ℕ) → i + length ps ≤ 64 → Low ps → Apart ps → (k : ℕ)
      → ((j : ℕ) → j < length ps → get_or ps j 0 ≡ k → marked (i + j) ≡ false) → block_at (undone marked i ps old d) k ≡ block_at d k
  unfolding undone
  undone_other i [] n low apart k h = refl
  undone_other i (p ∷ ps) n low apart k h =
      let e = undone marked (suc i) ps old d in
      let rest = undone_size (suc i) ps (omega arith) (λ j h. low (suc j) (omega arith)) (tail_apart p ps apart) in
      let fits : 128 * p + 128 ≤ length e = omega (arith, low 0 (omega arith)) in
      let y = undone_other (suc i) ps (omega arith) (λ j h. low (suc j) (omega arith)) (tail_apart p ps apart) k
      (λ j a q. let z : i + suc j ≡ suc i + j = omega arith in rw z at (h (suc j) (omega arith) q)) in
      rw (undone_cons i p ps apart)
      (cases (marked i)
      (λ a.
      let ne : k ≢ p = λ q. clash a (let z : i + 0 ≡ i = omega arith in rw z at (h 0 (omega arith) (sym q))) in
      rw a (block_other e p (block_at old i) fits (old_block i (omega arith)) k ne ∙ y))
      (λ a. rw a y))

  -- each block is as it was, or as a marked store found it
  pub undone_each : (i : ℕ) (ps : List ℕ) → i + length ps ≤ 64 → Low ps → Apart ps → (k : ℕ)
      → (block_at (undone marked i ps old d) k ≡ block_at d k) ⊎ ((j : ℕ) × (j < length ps) × (get_or ps j 0 ≡ k) × (block_at (undone marked i ps old d) k ≡ block_at old (i + j)))
  unfolding undone
  undone_each i [] n low apart k = inl refl
  undone_each i (p ∷ ps) n low apart k =
      let rest = undone_size (suc i) ps (omega arith) (λ j h. low (suc j) (omega arith)) (tail_apart p ps apart) in
      let fits : 128 * p + 128 ≤ length (undone marked (suc i) ps old d) = omega (arith, low 0 (omega arith)) in
      rw (undone_cons i p ps apart)
      (by_mark (undone marked (suc i) ps old d) fits (undone_each (suc i) ps (omega arith) (λ j h. low (suc j) (omega arith)) (tail_apart p ps apart) k))
    where
      by_mark : (e : Bytes) → 128 * p + 128 ≤ length e
          → (block_at e k ≡ block_at d k) ⊎ ((j : ℕ) × (j < length ps) × (get_or ps j 0 ≡ k) × (block_at e k ≡ block_at old (suc i + j)))
          → (block_at (cond (marked i) (store e p (block_at old i)) e) k ≡ block_at d k)
          ⊎ ((j : ℕ) × (j < suc (length ps)) × (get_or (p ∷ ps) j 0 ≡ k) × (block_at (cond (marked i) (store e p (block_at old i)) e) k ≡ block_at old (i + j)))
      by_mark e fits y =
          let b = old_block i (omega arith) in
          cases (marked i)
          (λ a.
          rw a
          (elim (ℕ_discrete k p) [
            | yes q ↦ inr (0, omega arith, sym q, (let z : i + 0 ≡ i = omega arith in rw (q, z) (block_stored e p (block_at old i) fits b)))
            | no ne ↦ (let same = block_other e p (block_at old i) fits b k ne in
                elim y [
                  | inl q ↦ inl (same ∙ q)
                  | inr q ↦ inr (suc q.0, omega (arith, q.1), q.2, (let z : i + suc q.0 ≡ suc i + q.0 = omega arith in rw z (same ∙ q.3)))
                ])
          ]))
          (λ a.
          rw a
          (elim y [
            | inl q ↦ inl q
            | inr q ↦ inr (suc q.0, omega (arith, q.1), q.2, (let z : i + suc q.0 ≡ suc i + q.0 = omega arith in rw z q.3))
          ]))

pub undone_bytes : (marked : ℕ → Bool) (old d : Bytes) → IsBytes d → IsBytes old → (i : ℕ) (ps : List ℕ) → IsBytes (undone marked i ps old d)
unfolding undone
undone_bytes marked old d bd bo i [] = bd
undone_bytes marked old d bd bo i (p ∷ ps) =
    let rest = undone_bytes marked old d bd bo (suc i) ps in
    cases (marked i && not (stands_later marked p (suc i) ps))
    (λ a. rw a (bytes_store (undone marked (suc i) ps old d) p (block_at old i) rest (bytes_block_at old i bo)))
    (λ a. rw a rest)
