-- The tails of a master as an array of the card holds them: the words that are written of them, and those that it gives.
use Rattle.std.specs.Prelude.{ℕ, List, cond, get_or, ltb}
use Rattle.model.specs.Bytes.{Bytes}
use Rattle.model.specs.Card.{new_tail}
use Rattle.model.specs.Layout.{master_words, shape_in, tail_in}
use Rattle.model.specs.declared.Shape.{Shape}
use Rattle.model.specs.declared.Tail.{Tail}
use Rattle.model.specs.declared.CommitLayout.TheVariants.{Numbers}

unfoldable pub master_from : Shape → List Tail → List ℕ
master_from s ts = master_words Numbers s (λ (c : ℕ). get_or ts c (new_tail 0 0))

-- core c's, and the empty one where the disk has no core c
unfoldable pub tail_or_none : Bytes → ℕ → Tail
tail_or_none m c = cond (ltb c (shape_in m).cores) (tail_in m c) (new_tail 0 0)
