-- `valid::Round::strike` meets its contract: those that remain have passed the range test.
use borrow.Author.Rules.{rules}
use Rattle.valid.proofs.ShrinkLaws.{round_tested}
use Rattle.valid.proofs.shrinking.Round.strike.Goals as goal

pub invariant_of-self : goal.invariant_of-self
invariant_of-self c = record { tested = search (rules, round_tested) }
