-- CUT LOSING on bytes, paper 02, (m): 'undoes the marked stores', and 'The other stores stand in their order'. From the last store back, a
-- marked one gives its block the image back that it replaced, unless a later one that is not marked replaced that block. 'bits beyond the
-- last store mean nothing'
use Rattle.std.specs.Prelude.{ℕ, suc, Bool, false, cond, not, ◌&&◌, ◌||◌, List, [], ◌∷◌, eqb}
use Rattle.model.specs.Bytes.{Bytes, block_at, store}

module _ (marked : ℕ → Bool) where
  -- a store from the i-th on that is not marked was of block p
  unfoldable pub stands_later : ℕ → ℕ → List ℕ → Bool
  stands_later p i [] = false
  stands_later p i (q ∷ qs) = (eqb p q && not (marked i)) || stands_later p (suc i) qs

  -- the stores from the i-th on, of these blocks in order, undone; the images that they replaced lie in `old`
  unfoldable pub undone : ℕ → List ℕ → Bytes → Bytes → Bytes
  undone i [] old d = d
  undone i (p ∷ ps) old d =
      let e = undone (suc i) ps old d in
      cond (marked i && not (stands_later p (suc i) ps)) (store e p (block_at old i)) e
