-- `oldest::refusals::check_oldest` meets its contract: 32, 33, or none.
use mathlib.Core.Path.{refl}
use borrow.Author.Rules.{rules}
use Rattle.oldest.proofs.OldestLaws.{oldest_core, oldest_was_read, found_conditions_32, found_conditions_33, found_conditions_none}
use Rattle.oldest.proofs.SharedLaws.{read_shape}
use Rattle.oldest.proofs.refusals.check_oldest.Goals as goal

pub bounds-valid-c : goal.bounds-valid-c
bounds-valid-c c = search (rules, oldest_core)

pub returns-then-valid-c-eq0 : goal.returns-then-valid-c-eq0
returns-then-valid-c-eq0 c = found_conditions_32 _ _ _ _ _ _ _ c.requires.1 _ c.requires.0 _ (search rules) _ _ (c.valid_runs-valid.ensures.0 _ (λ i. (refl, refl))) c.if-valid-c-eq0.true

pub shares_lower-requires : goal.shares_lower-requires
shares_lower-requires c = search (rules, read_shape, oldest_was_read)

pub returns-then-shares_lower : goal.returns-then-shares_lower
returns-then-shares_lower c = found_conditions_33 _ _ _ _ _ _ _ c.requires.1 _ c.requires.0 _ (search rules) _ _ (c.valid_runs-valid.ensures.0 _ (λ i. (refl, refl))) (search rules) _ c.shares_lower.ensures (search rules)

pub returns : goal.returns
returns c = found_conditions_none _ _ _ _ _ _ _ c.requires.1 _ c.requires.0 _ (search rules) _ _ (c.valid_runs-valid.ensures.0 _ (λ i. (refl, refl))) (search rules) _ c.shares_lower.ensures (search rules)
