-- `cells::cores::numbers_at` meets its contract: four cells read.
use Rattle.cells.proofs.ReadLaws.{next_there, used_there, stored_there, homed_there}
use Rattle.cells.proofs.CoreLaws.{numbers_cong}
use Rattle.cells.proofs.cores.numbers_at.Goals as goal

pub returns : goal.returns
returns c =
    let w = c.args.w.now in
    let k = c.args.c in
    let at = c.core_place-at.ensures in
    numbers_cong _ _ _ _ _ _ _ _
    (next_there w k c.requires _ at _ c.number_in.ensures)
    (used_there w k c.requires _ at _ c.byte_in.ensures)
    (stored_there w k c.requires _ at _ c.byte_in-2.ensures)
    (homed_there w k c.requires _ at _ c.byte_in-3.ensures)
