-- The blocks of a descriptor are distinct where each is none of those before it.
use Rattle.std.specs.Prelude.{ℕ, Bool, not, eqb}
use Rattle.model.specs.Bytes.{Bytes}
use Rattle.model.specs.Layout.{Tag, new_tag, pair_at}
use Rattle.layout.specs.Loops.{every}

abbrev pub tag_at : Bytes → ℕ → Tag
tag_at b i = pair_at new_tag b 16 i

unfoldable pub is_other : Bytes → ℕ → ℕ → Bool
is_other b i j = not (eqb (tag_at b j).block (tag_at b i).block)

unfoldable pub is_new : Bytes → ℕ → Bool
is_new b i = every i (is_other b i)
