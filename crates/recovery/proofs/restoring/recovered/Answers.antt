-- `recovery::restoring::recovered` meets its contract: all journals are read, and of them the valid set.
use Rattle.recovery.proofs.JournalLaws.{shaped_same, on_disk_same, all_valid, all_emptying}
use mathlib.Core.Path.{refl}
use Rattle.recovery.proofs.restoring.recovered.Goals as goal

pub new-whole-requires : goal.new-whole-requires
new-whole-requires c = (c.disk_shape-s.ensures.range, c.disk_shape-s.ensures.long)

pub read_disk-all-requires : goal.read_disk-all-requires
read_disk-all-requires c =
    let n = c.new-whole.ensures in
    shaped_same _ _ _ _ n.0 n.1 c.disk_shape-s.ensures

pub next_store-requires : goal.next_store-requires
next_store-requires c =
    let n = c.new-whole.ensures in
    let shaped = c.disk_shape-s.ensures in
    let on_disk = on_disk_same _ _ _ _ n.0 n.1 _ _ _ _ _ c.read_disk-all.ensures in
    let valid = rw (n.0, n.1) at (c.valid_runs-valid.ensures.0 _ (λ i. (refl, refl))) in
    let tested = rw (n.0, n.1) at c.valid_runs-valid.ensures.2 in
    (shaped, all_valid _ _ shaped _ _ _ _ _ on_disk _ _ valid tested, all_emptying _ _ shaped _ _ _ _ _ on_disk)
