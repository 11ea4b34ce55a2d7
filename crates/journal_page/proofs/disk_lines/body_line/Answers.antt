-- `journal_page::disk_lines::body_line` meets its contract: a transaction of some core, or behind them a core's end.
use Rattle.recovery.proofs.JournalLaws.{all_valid}
use Rattle.journal_page.proofs.DiskLineLaws.{tails_here, nth_end, nth_place, nth_tested, nth_shown}
use mathlib.Core.Path.{refl}
use borrow.Author.Rules.{rules}
use Rattle.journal_page.proofs.disk_lines.body_line.Goals as goal

pub end_line-requires : goal.end_line-requires
end_line-requires c = search (rules, tails_here)

pub returns-in_default : goal.returns-in_default
returns-in_default c =
    let z : _ = c.requires in
    nth_end _ _ z.0 _ _ _ _ _ z.1 _ c.in_default.ensures _ c.total_count.ensures _ c.end_line.ensures

pub invariant_of-records : goal.invariant_of-records
invariant_of-records c = record { tested = c.requires.1.tested }

pub record_line-requires : goal.record_line-requires
record_line-requires c =
    let z : _ = c.requires in
    let w = c.in-Some.ensures in
    (w.0, nth_place _ _ z.0 _ _ _ _ _ z.1 _ _ w, w.1, nth_tested _ _ z.0 _ _ _ _ _ z.1 _ _ w)

pub returns : goal.returns
returns c =
    let z : _ = c.requires in
    let valid = all_valid _ _ z.0 _ _ _ _ _ z.1 _ _ (c.valid_runs-valid.ensures.0 _ (λ i. (refl, refl))) c.valid_runs-valid.ensures.2 in
    nth_shown _ _ z.0 _ _ _ _ _ z.1 _ _ c.in-Some.ensures _ _ valid _ refl _ c.record_line.ensures
