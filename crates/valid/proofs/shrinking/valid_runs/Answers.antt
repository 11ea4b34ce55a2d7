-- `valid::valid_runs` meets its contract: what the first round leaves, or the recursion after it, is the valid set.
use Rattle.valid.specs.declared.shrinking.Round.{Round}
use Rattle.valid.proofs.ShrinkLaws.{shrink_settled, shrink_again, alone_again, alone_tested, shrunk_valid}
use Rattle.valid.proofs.shrinking.valid_runs.Goals as goal

pub returns-then-left-read : goal.returns-then-left-read
returns-then-left-read c =
    let first : Round = record { layout = c.args.layout; oldest = c.tail_numbers.result; records = c.args.all } in
    let alone = c.strike.ensures.1 in
    let settled = shrink_settled first c.strike.new.self alone c.strike.ensures.0 _ _ c.total_count-left.ensures c.total_count-read.ensures c.if-left-read.true in
    (shrunk_valid first c.strike.new.self alone _ c.tail_numbers.ensures settled, alone.start, alone_tested first c.strike.new.self alone)

pub returns : goal.returns
returns c =
    let first : Round = record { layout = c.args.layout; oldest = c.tail_numbers.result; records = c.args.all } in
    let last = c.shrink_set.new.round in
    let alone = alone_again first c.strike.new.self c.strike.ensures.1 last c.shrink_set.ensures.1 in
    let again = shrink_again first c.strike.new.self c.strike.ensures.1 c.strike.ensures.0 last c.shrink_set.ensures.0 in
    (shrunk_valid first last alone _ c.tail_numbers.ensures again, alone.start, alone_tested first last alone)
