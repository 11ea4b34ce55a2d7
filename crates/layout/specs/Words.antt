-- The words of the record blocks as the writers take them from arrays.
use Rattle.std.specs.Prelude.{ℕ, ◌%◌, List, map, cond, get_or, eqb}
use Rattle.model.specs.Lists.{below}
use Rattle.model.specs.Layout.{Tag, new_tag, descriptor_words}

-- of pairs that stand one after the other, what stands at word k of the one there
unfoldable pub pair_word : ℕ → ℕ → ℕ → ℕ
pair_word first second k = cond (eqb (k % 2) 0) first second

-- n blocks with their flags
unfoldable pub tags_from : ℕ → List ℕ → List ℕ → List Tag
tags_from n bs fs = map (λ (i : ℕ). new_tag (get_or bs i 0) (get_or fs i 0)) (below n)

unfoldable pub descriptor_from : ℕ → ℕ → List ℕ → List ℕ → List ℕ
descriptor_from k n bs fs = descriptor_words k (tags_from n bs fs)
