-- The card: of each command the conditions under which it is refused and what it does where none holds.
use Rattle.std.specs.Prelude.{ℕ, List, [], ◌∷◌, Bool, true}
use Rattle.model.specs.Bytes.{Bytes, zero_memory}
use Rattle.model.specs.Shape.{new_shape}
use Rattle.model.specs.Card.{down_card}
use Rattle.model.specs.Command.{Outcome, refused_with, unless, Decided, World, DiskStore, no_store, one_store, whole_disk, unstored, wrong_length}
use Rattle.model.specs.Tape.{block_limit, Command, FORMAT, WRITE, CLOSE, STORE, CHECKPOINT, CUT, RECOVER, RETIRE, Read, whole, unknown, early, read_at, Step, TapeStep, command_at}
use Rattle.model.specs.Valid.{Order, in_sequence}
use Rattle.model.specs.Format.{format_conditions, formatted_disk, formatted}
use Rattle.model.specs.Write.{write_conditions, written}
use Rattle.model.specs.Commit.{close_conditions, closed, store_conditions, record_store, stored}
use Rattle.model.specs.Checkpoint.{committed_of, oldest, checkpoint_conditions, home_store, checkpointed, retire_conditions, retired_card, master_store, retired_oldest}
use Rattle.model.specs.declared.CommitLayout.TheVariants.{Numbers}
use Rattle.model.specs.Recovery.{layout_on, cut_conditions, recover_conditions, blocks_left, recover_store, recovered}

unfoldable pub conditions_of : Order → Command → World → List (Bool × ℕ)
conditions_of o (FORMAT c b j) w = format_conditions c b j w
conditions_of o (WRITE task c b i v) w = write_conditions (block_limit task) c b i w
conditions_of o (CLOSE c) w = close_conditions c w
conditions_of o (STORE c) w = store_conditions c w
conditions_of o (CHECKPOINT c) w = checkpoint_conditions o c w
conditions_of o CUT w = cut_conditions w
conditions_of o RECOVER w = recover_conditions w
conditions_of o (RETIRE c) w = retire_conditions o c w

unfoldable pub done_by : Order → Command → World → Outcome World
done_by o (FORMAT c b j) w = formatted (new_shape c b j)
done_by o (WRITE task c b i v) w = written c b i v w
done_by o (CLOSE c) w = closed c w
done_by o (STORE c) w = stored c w
done_by o (CHECKPOINT c) w = checkpointed c w
done_by o CUT w = unstored w down_card zero_memory
done_by o RECOVER w = recovered o w
done_by o (RETIRE c) w = retired_oldest c w

-- what a command carried out stores next
unfoldable pub next_store : Order → Command → World → DiskStore
next_store o (FORMAT c b j) w = whole_disk (formatted_disk Numbers (new_shape c b j))
next_store o (WRITE task c b i v) w = no_store
next_store o (CLOSE c) w = no_store
next_store o (STORE c) w = one_store (record_store c w)
next_store o (CHECKPOINT c) w = one_store (home_store c (oldest (committed_of w c)) w)
next_store o CUT w = no_store
next_store o RECOVER w = let y = layout_on w.disk in one_store (recover_store o y Numbers (blocks_left o y w) w.disk)
next_store o (RETIRE c) w = one_store (master_store (retired_card c (oldest (committed_of w c)) w.card))

-- the card under a rule, its commits with numbers. That is too little under the old one: its card fails demand 3
unfoldable pub step_by : Order → Step World
step_by o k w = unless (conditions_of o k w) w (done_by o k w)

-- ours: request (c) is in force
abbrev pub step : Step World
step = step_by in_sequence

-- the world after these commands, done or refused
unfoldable pub world_by : List Command → World → World
world_by [] w = w
world_by (k ∷ ks) w = world_by ks (step k w).world

-- the card as a tape meets it
unfoldable pub step_at_by : Order → TapeStep World
step_at_by o = command_at wrong_length (step_by o)

abbrev pub step_at : TapeStep World
step_at = step_at_by in_sequence

-- ---- demand 1 for one command, of any card over any tape, disk, memory and card state: '1, 2, 3, then' the command's own. Where
-- no condition holds, what the card makes of the command is what is defined, in every byte and in its whole state.
unfoldable pub conditions_on : Order → Read → World → List (Bool × ℕ)
conditions_on o (whole k) w = conditions_of o k w
conditions_on o unknown w = (wrong_length w, 1) ∷ (true, 2) ∷ []
conditions_on o early w = (wrong_length w, 1) ∷ (true, 3) ∷ []

-- (where 2 or 3 holds, nothing is ever carried out)
unfoldable pub done_on : Order → Read → World → Outcome World
done_on o (whole k) w = done_by o k w
done_on o unknown w = refused_with 0 w
done_on o early w = refused_with 0 w

abbrev pub DecidesEach : Order → TapeStep World → Type 0
DecidesEach o f = (t : Bytes) (at : ℕ) (w : World) → Decided (conditions_on o (read_at t at) w) w (done_on o (read_at t at) w) (f t at w)
