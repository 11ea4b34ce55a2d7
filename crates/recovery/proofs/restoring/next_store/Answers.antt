-- `recovery::restoring::next_store` meets its contract: the lowest block left, or with none the master.
use mathlib.Core.Path.{refl}
use borrow.Author.Rules.{rules}
use Rattle.recovery.proofs.JournalLaws.{shaped_same, tested_same, valid_same}
use Rattle.recovery.proofs.RecoverLaws.{recovered_below, recovered_home, recovered_up}
use Rattle.recovery.proofs.restoring.next_store.Goals as goal

pub new-whole-requires : goal.new-whole-requires
new-whole-requires c = (c.requires.0.range, c.requires.0.long)

pub invariant_of-valid : goal.invariant_of-valid
invariant_of-valid c =
    let n = c.new-whole.ensures in
    record { tested = tested_same _ _ _ _ n.0 n.1 _ _ _ c.requires.1.tested }

pub bring_up-requires : goal.bring_up-requires
bring_up-requires c = (c.requires.0, c.requires.2)

pub returns-in_default : goal.returns-in_default
returns-in_default c =
    let n = c.new-whole.ensures in
    let e = rw (n.0, n.1) at (c.next_held.ensures _ (λ i. (refl, refl))) in
    recovered_up c.args.w.now _ _ c.requires.0 _ _ _ c.requires.1 _ (search rules) _ e c.in_default.is _ _ c.bring_up.ensures

pub newest_block-image-requires : goal.newest_block-image-requires
newest_block-image-requires c =
    let n = c.new-whole.ensures in
    (shaped_same _ _ _ _ n.0 n.1 c.requires.0, valid_same _ _ _ _ n.0 n.1 _ _ _ c.requires.1)

pub restore_block-requires : goal.restore_block-requires
restore_block-requires c =
    let n = c.new-whole.ensures in
    let e = rw (n.0, n.1) at (c.next_held.ensures _ (λ i. (refl, refl))) in
    (c.requires.0, recovered_below c.args.w.now _ _ c.requires.0 _ _ _ c.requires.1 _ (search rules) _ e _ c.in-Some.is, rw n.1 at c.newest_block-image.ensures)

pub returns : goal.returns
returns c =
    let n = c.new-whole.ensures in
    let e = rw (n.0, n.1) at (c.next_held.ensures _ (λ i. (refl, refl))) in
    recovered_home c.args.w.now _ _ c.requires.0 _ _ _ c.requires.1 _ (search rules) _ e _ c.in-Some.is _ _ c.restore_block.ensures
