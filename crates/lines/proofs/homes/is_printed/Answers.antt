-- `lines::homes::is_printed` meets its contract: the block is a part of the disk.
use lib.Dec.{eqb}
use mathlib.Core.Bool.{not}
use Rattle.std.proofs.Common.{rules, tests, ℕ}
use Rattle.std.proofs.lemmas.Iterator.{YieldsList-from_slice}
use Rattle.std.proofs.lemmas.Iterator.Search.{any_from_yields_List}
use Rattle.lines.proofs.PageLaws.{printed_part}
use Rattle.lines.proofs.homes.is_printed.Goals as goal

pub returns : goal.returns
returns c = printed_part _ _ _ (any_from_yields_List (λ (x : ℕ). not (eqb x 0)) _ _ _ c.any.ensures.ran (YieldsList-from_slice _ c.iter.ensures.rest) (λ x b q k. search (rules, tests)))
