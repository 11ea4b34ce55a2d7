-- `firmware::session::run` meets its contract. Invariant: what is left of the run gives what holds at its end.
use native.Mathlib.Omega.{arith}
use borrow.Author.Rules.{rules}
use Rattle.model.proofs.Tape.{next_past}
use Rattle.firmware.proofs.RunLaws.{run_left_start, run_left_more, run_left_end, are_bytes, demands_met}
use Rattle.firmware.proofs.session.run.Goals as goal

pub loop-at-init : goal.loop-at-init
loop-at-init c = (search rules, search rules, run_left_start _ _ _ _)

pub loop-at-smaller : goal.loop-at-smaller
loop-at-smaller c = omega (arith, c.command-done.ensures.next, next_past c.args.tape.now c.loop-at.at c.loop-at-test.true)

pub loop-at-preserved : goal.loop-at-preserved
loop-at-preserved c =
    let r = c.command-done in
    let l = c.loop-at.invariant in (search rules, search rules, run_left_more _ _ _ _ _ _ _ _ _ l.2 c.loop-at-test.true _ _ _ _ r.ensures)

pub returns : goal.returns
returns c =
    run_left_end _ _ _ _ _ _ _ _ _ c.loop-at.invariant.2 c.loop-at-test.false (search rules)
    (demands_met _ _
    (are_bytes c.args.tape.now (λ i. omega (arith, c.type_inv.tape i)))
    (are_bytes c.args.disk.now (λ i. search rules))
    (are_bytes c.args.memory.now (λ i. search rules)))
