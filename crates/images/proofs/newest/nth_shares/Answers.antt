-- `images::nth_shares` meets its contract: the record stands at its place.
use borrow.Author.Rules.{rules}
use Rattle.journal.proofs.Tested.{run_of, run_place}
use Rattle.images.proofs.Steps.{run_sized, run_tested}
use Rattle.images.proofs.Shared.{asked_in_lem}
use Rattle.images.proofs.newest.nth_shares.Goals as goal

pub bounds-set-at : goal.bounds-set-at
bounds-set-at c = search (rules, run_of, run_place)

pub record_shares-requires : goal.record_shares-requires
record_shares-requires c =
    let t : _ = run_of _ _ _ _ _ c.args.set.now.tested c.args.c c.requires.0 in (
      run_sized _ _ _ _ _ _ _ c.committed.ensures _ t c.requires.1 c.requires.0,
      run_tested _ _ _ _ _ _ _ c.committed.ensures _ t c.requires.1,
      c.requires.2,
      c.requires.3,
    )

pub returns : goal.returns
returns c = search (rules, asked_in_lem)
