-- A command as the code has it, and what stands at an offset of a tape as the code answers it.
use Rattle.std.specs.Prelude.{ℕ, ◌≡◌, Result, Ok}
use Rattle.model.specs.Tape.{Task, lamp_task, report_task, Command, FORMAT, WRITE, CLOSE, STORE, CHECKPOINT, CUT, RECOVER, RETIRE, Read, whole, unknown, early}
use Rattle.model.specs.Refusal.{answer_of}
use Rattle.model.specs.declared.Refusal.{Refusal}
use Rattle.operands.specs.declared.decoding.Task as task_code
use Rattle.operands.specs.declared.decoding.Task.TheVariants.{Lamp, Report}
use Rattle.operands.specs.declared.decoding.Command as code
use Rattle.operands.specs.declared.decoding.Command.TheVariants.{Format, Write, Close, Store, Checkpoint, Cut, Recover, Retire}

abbrev pub task_of : task_code.Task → Task
task_of Lamp = lamp_task
task_of Report = report_task

abbrev pub command_of : code.Command → Command
command_of (Format c b j) = FORMAT c b j
command_of (Write t c b o v) = WRITE (task_of t) c b o v
command_of (Close c) = CLOSE c
command_of (Store c) = STORE c
command_of (Checkpoint c) = CHECKPOINT c
command_of Cut = CUT
command_of Recover = RECOVER
command_of (Retire c) = RETIRE c

-- '2 unknown command byte', '3 operands end early'
abbrev pub tape_answer : Read → ℕ
tape_answer (whole k) = 0
tape_answer unknown = 2
tape_answer early = 3

-- what is answered for what stands there: its refusal, or the command
pub record ReadAs (r : Read) (x : Result code.Command Refusal) : Type 0 where
  pub number : answer_of x ≡ tape_answer r
  pub found : (k : code.Command) → x ≡ Ok k → r ≡ whole (command_of k)
