-- Cards that go wrong by paper 02's (g): 'CHECKPOINT (5) now only does the home stores. The new command RETIRE .. does the master store'.
use Rattle.std.specs.Prelude.{ℕ, ◌+◌, cond, ◌&&◌, eqb}
use Rattle.model.specs.Command.{World}
use Rattle.model.specs.Tape.{Step, CHECKPOINT, RETIRE}
use Rattle.model.specs.Step.{step}
use Rattle.refuted.specs.Parts.{other_checkpoint, other_retire, ignoring, with_disk}

-- RETIRE alone does not ask for the condition of number n
abbrev pub retire_ignoring : ℕ → Step World
retire_ignoring n = other_retire step (λ c w. ignoring n (RETIRE c) w)

-- the CHECKPOINT of before: where 35 is due it stores the master
abbrev pub checkpoint_retires : Step World
checkpoint_retires =
    other_checkpoint step (λ c w.
    let o = step (CHECKPOINT c) w in
    cond (eqb o.answer 35) (step (RETIRE c) w) o)

-- CHECKPOINT stores the master together with the last home store: two stores
abbrev pub retires_with_last : Step World
retires_with_last =
    other_checkpoint step (λ c w.
    let o = step (CHECKPOINT c) w in
    let p = step (RETIRE c) o.world in
    cond (eqb o.answer 0 && eqb p.answer 0) (record { answer = 0; world = p.world; stores = o.stores + p.stores }) o)

-- CHECKPOINT counts the home store and stores nothing
abbrev pub counts_home_alone : Step World
counts_home_alone = other_checkpoint step (λ c w. with_disk w.disk (step (CHECKPOINT c) w))
