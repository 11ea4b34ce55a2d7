-- `operands::next_offset` meets its contract: behind the command, or the tape's end.
use Rattle.operands.proofs.OffsetLaws.{next_past, next_unknown, next_early, next_whole}
use borrow.Author.Rules.{rules}
use Rattle.operands.proofs.next_offset.Goals as goal
use Rattle.operands.proofs.next_offset.Goals.{then-is_unknown-via-then-is_unknown, then-is_unknown-via-else-is_unknown+then-ends_early}

pub returns-then-tape-at : goal.returns-then-tape-at
returns-then-tape-at c = search (rules, next_past)

pub returns-then-is_unknown : goal.returns-then-is_unknown
returns-then-is_unknown c =
    elim c.then-is_unknown.branch [
      | then-is_unknown-via-then-is_unknown w ↦ search (rules, next_unknown)
      | then-is_unknown-via-else-is_unknown+then-ends_early w ↦ search (rules, next_early)
    ]

pub returns : goal.returns
returns c = search (rules, next_whole)
