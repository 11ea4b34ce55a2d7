-- `journal_page::line::Field::byte_at` meets its contract.
use borrow.Author.Rules.{rules}
use Rattle.journal_page.proofs.LineLaws.{covered_from, covered_wide, covered_place, shows_letter, shows_digit}
use Rattle.journal_page.proofs.line.Field.byte_at.Goals as goal

pub overflow_sub-place : goal.overflow_sub-place
overflow_sub-place c = search (rules, covered_wide)

pub overflow_sub-place-2 : goal.overflow_sub-place-2
overflow_sub-place-2 c = search (rules, covered_from)

pub overflow_sub-place-3 : goal.overflow_sub-place-3
overflow_sub-place-3 c = search (rules, covered_place)

pub returns-in-Number : goal.returns-in-Number
returns-in-Number c = search (rules, shows_digit)

pub returns-in-Word : goal.returns-in-Word
returns-in-Word c = search (rules, shows_letter)
