-- `oldest::asked::ask_oldest` meets its contract: refused at one of the first stages, none counted, or by the committed transactions.
use borrow.Author.Rules.{rules}
use Rattle.std.specs.Prelude.{◌≡◌}
use Rattle.journal.proofs.Whole.{whole_is}
use Rattle.oldest.proofs.AskedLaws.{first_asked, passed_few, passed_core, passed_long, counted_none, read_asked}
use Rattle.oldest.proofs.asked.ask_oldest.Goals as goal

pub returns-in_err-check_entry : goal.returns-in_err-check_entry
returns-in_err-check_entry c = search (rules, first_asked)

pub counted-requires : goal.counted-requires
counted-requires c = search (rules, passed_few, c.in_ok-check_entry.ensures)

pub returns-then-counted-eq0 : goal.returns-then-counted-eq0
returns-then-counted-eq0 c = search (rules, counted_none, c.in_ok-check_entry.ensures)

pub unwrap-requires : goal.unwrap-requires
unwrap-requires c = c.try_into.ensures.0 (search (rules, passed_long, c.in_ok-check_entry.ensures))

pub ask_read-requires : goal.ask_read-requires
ask_read-requires c = search (rules, passed_core, passed_long, c.in_ok-check_entry.ensures)

pub returns : goal.returns
returns c =
    let same : c.unwrap.result.now ≡ c.args.disk.now = whole_is _ _ _ _ c.try_into.ensures.1 _ c.unwrap.ensures in
    search (rules, read_asked, c.in_ok-check_entry.ensures, same, c.ask_read.ensures)
