-- The parts that wrong cards replace are the model's: with its own ones in their place each card is the model's.
use Prim.Native.Nat.{ℕ, suc, ◌+◌, min}
use mathlib.Core.Path.{◌≡◌, refl, sym, ap}
use mathlib.Core.List.{List, [], ◌∷◌}
use Rattle.model.specs.Bytes.{Bytes}
use Rattle.model.specs.Shape.{journal_block}
use Rattle.model.specs.Card.{shape_of, with_name}
use Rattle.model.specs.Layout.{is_master}
use Rattle.model.specs.Command.{World, Outcome, unless}
use Rattle.model.specs.Commit.{next_stored, next_position, stored}
use Rattle.model.specs.Valid.{Order, in_sequence, valid_set}
use Rattle.model.specs.Format.{formatted}
use Rattle.model.specs.Write.{writer_after, takes_block, write_conditions, written_card, written}
use Rattle.model.specs.Checkpoint.{valid_now, checkpoint_conditions, retire_conditions, stored_master, retired_oldest, found_conditions, committed_conditions}
use Rattle.model.specs.Recovery.{valid_on, valid_on_by, layout_on, recover_conditions, blocks_left, newest_image, emptied_tail, brought_up, recover_step, recovered_by, recovered}
use Rattle.model.specs.Tape.{Task, lamp_task, report_task, Command, FORMAT, WRITE, CLOSE, STORE, CHECKPOINT, CUT, RECOVER, RETIRE, Step, read_at}
use Rattle.model.specs.Step.{conditions_of, done_by, step, step_by, step_at, step_at_by, conditions_on, done_on}
use Rattle.model.specs.Limits.{max_number, max_report_taken}
use Rattle.model.specs.declared.Card.{Card}
use Rattle.model.specs.declared.CommitLayout.TheVariants.{Numbers}
use Rattle.model.proofs.Command.{command_unless}
use Rattle.refuted.specs.Parts.{on_tape, other_format, other_write, other_store, other_checkpoint, other_retire, other_recover, store_by, recover_step_by, recover_by, own_left, own_image, own_tail, recover_set, recover_tail, by_orders, valid_by, format_as, retire_as, recover_as, always_numbers, write_naming, other_report, limit_asking}

-- a card that does as the model's in a world, and in every world
abbrev pub SameIn : World → Step World → Type 0
SameIn w f = (k : Command) → f k w ≡ step k w

abbrev pub IsModel : Step World → Type 0
IsModel f = (w : World) → SameIn w f

-- as a tape meets it, it is the model's too
pub tape_model : (o : Order) → on_tape (step_by o) ≡ step_at_by o
unfolding step_at_by
tape_model o = refl

-- ---- another command that does as the model's
module _ (w : World) where
  other_format_lem : (g : ℕ → ℕ → ℕ → World → Outcome World) → ((c b j : ℕ) → g c b j w ≡ step (FORMAT c b j) w) → SameIn w (other_format step g)
  other_format_lem g h (FORMAT c b j) = h c b j
  other_format_lem g h (WRITE task c b o v) = refl
  other_format_lem g h (CLOSE c) = refl
  other_format_lem g h (STORE c) = refl
  other_format_lem g h (CHECKPOINT c) = refl
  other_format_lem g h CUT = refl
  other_format_lem g h RECOVER = refl
  other_format_lem g h (RETIRE c) = refl

  other_write_lem : (g : Task → ℕ → ℕ → ℕ → Bytes → World → Outcome World)
      → ((task : Task) (c b o : ℕ) (v : Bytes) → g task c b o v w ≡ step (WRITE task c b o v) w) → SameIn w (other_write step g)
  other_write_lem g h (FORMAT c b j) = refl
  other_write_lem g h (WRITE task c b o v) = h task c b o v
  other_write_lem g h (CLOSE c) = refl
  other_write_lem g h (STORE c) = refl
  other_write_lem g h (CHECKPOINT c) = refl
  other_write_lem g h CUT = refl
  other_write_lem g h RECOVER = refl
  other_write_lem g h (RETIRE c) = refl

  other_store_lem : (g : ℕ → World → Outcome World) → ((c : ℕ) → g c w ≡ step (STORE c) w) → SameIn w (other_store step g)
  other_store_lem g h (FORMAT c b j) = refl
  other_store_lem g h (WRITE task c b o v) = refl
  other_store_lem g h (CLOSE c) = refl
  other_store_lem g h (STORE c) = h c
  other_store_lem g h (CHECKPOINT c) = refl
  other_store_lem g h CUT = refl
  other_store_lem g h RECOVER = refl
  other_store_lem g h (RETIRE c) = refl

  pub other_checkpoint_lem : (f : Step World) → SameIn w f → (g : ℕ → World → Outcome World) → ((c : ℕ) → g c w ≡ step (CHECKPOINT c) w) → SameIn w (other_checkpoint f g)
  other_checkpoint_lem f same g h (FORMAT c b j) = same (FORMAT c b j)
  other_checkpoint_lem f same g h (WRITE task c b o v) = same (WRITE task c b o v)
  other_checkpoint_lem f same g h (CLOSE c) = same (CLOSE c)
  other_checkpoint_lem f same g h (STORE c) = same (STORE c)
  other_checkpoint_lem f same g h (CHECKPOINT c) = h c
  other_checkpoint_lem f same g h CUT = same CUT
  other_checkpoint_lem f same g h RECOVER = same RECOVER
  other_checkpoint_lem f same g h (RETIRE c) = same (RETIRE c)

  pub other_retire_lem : (f : Step World) → SameIn w f → (g : ℕ → World → Outcome World) → ((c : ℕ) → g c w ≡ step (RETIRE c) w) → SameIn w (other_retire f g)
  other_retire_lem f same g h (FORMAT c b j) = same (FORMAT c b j)
  other_retire_lem f same g h (WRITE task c b o v) = same (WRITE task c b o v)
  other_retire_lem f same g h (CLOSE c) = same (CLOSE c)
  other_retire_lem f same g h (STORE c) = same (STORE c)
  other_retire_lem f same g h (CHECKPOINT c) = same (CHECKPOINT c)
  other_retire_lem f same g h CUT = same CUT
  other_retire_lem f same g h RECOVER = same RECOVER
  other_retire_lem f same g h (RETIRE c) = h c

  other_recover_lem : (g : World → Outcome World) → g w ≡ step RECOVER w → SameIn w (other_recover step g)
  other_recover_lem g h (FORMAT c b j) = refl
  other_recover_lem g h (WRITE task c b o v) = refl
  other_recover_lem g h (CLOSE c) = refl
  other_recover_lem g h (STORE c) = refl
  other_recover_lem g h (CHECKPOINT c) = refl
  other_recover_lem g h CUT = refl
  other_recover_lem g h RECOVER = h
  other_recover_lem g h (RETIRE c) = refl

-- ---- the parts
-- `asking`, and with it `ignoring`, changes one of these conditions
pub by_conditions : IsModel (λ (k : Command) (w : World). unless (conditions_of in_sequence k w) w (done_by in_sequence k w))
unfolding step_by
by_conditions w k = refl

-- .. and `ignoring_at` one of these
pub by_tape_conditions : (t : Bytes) (at : ℕ) (w : World) → unless (conditions_on in_sequence (read_at t at) w) w (done_on in_sequence (read_at t at) w) ≡ step_at t at w
by_tape_conditions t at w = sym (command_unless in_sequence t at w)

pub store_by_lem : IsModel (store_by (λ (x : Card) (c : ℕ). journal_block (shape_of x) c (next_position x c)) next_stored)
unfolding step_by conditions_of done_by stored
store_by_lem w = other_store_lem w _ (λ c. refl)

same_step : (bs : List ℕ) (w : World) → recover_step_by own_image own_tail bs w ≡ recover_step in_sequence (layout_on w.disk) Numbers bs w
unfolding recover_step brought_up
same_step [] w = refl
same_step (b ∷ bs) w = refl

pub recover_by_lem : IsModel (recover_by own_left own_image own_tail)
unfolding step_by conditions_of done_by recovered recovered_by
recover_by_lem w = other_recover_lem w _ (ap (unless (recover_conditions w) w) (same_step (own_left w) w))

pub recover_set_lem : IsModel (recover_set valid_on)
unfolding blocks_left newest_image
recover_set_lem = recover_by_lem

pub recover_tail_lem : IsModel (recover_tail (λ (t n : ℕ). min (t + (n + 1)) (suc max_number)))
unfolding emptied_tail
recover_tail_lem = recover_by_lem

-- one rule in both is the card of the rule
pub by_orders_lem : (o : Order) (k : Command) (w : World) → by_orders o o k w ≡ step_by o k w
by_orders_lem o (FORMAT c b j) w = refl
by_orders_lem o (WRITE task c b i v) w = refl
by_orders_lem o (CLOSE c) w = refl
by_orders_lem o (STORE c) w = refl
by_orders_lem o (CHECKPOINT c) w = refl
by_orders_lem o CUT w = refl
by_orders_lem o RECOVER w = refl
by_orders_lem o (RETIRE c) w = refl

-- the valid set of CHECKPOINT, RETIRE and RECOVER
pub valid_by_lem : IsModel (valid_by (valid_set in_sequence))
unfolding step_by conditions_of done_by checkpoint_conditions retire_conditions valid_now valid_on_by committed_conditions found_conditions
valid_by_lem w =
    let card : Step World = valid_by (valid_set in_sequence) in
    let checkpoint : ℕ → World → Outcome World = λ c. card (CHECKPOINT c) in
    other_retire_lem w (other_checkpoint (recover_set valid_on) checkpoint)
    (other_checkpoint_lem w (recover_set valid_on) (recover_set_lem w) checkpoint (λ c. refl))
    (λ c. card (RETIRE c)) (λ c. refl)

-- paper 02, (d): the masters, the layout read, and what comes of a name
pub format_as_lem : IsModel (format_as Numbers)
unfolding step_by conditions_of done_by formatted
format_as_lem w = other_format_lem w _ (λ c b j. refl)

pub retire_as_lem : IsModel (retire_as Numbers)
unfolding step_by conditions_of done_by retired_oldest stored_master
retire_as_lem w = other_retire_lem w step (λ k. refl) (λ c. retire_as Numbers (RETIRE c)) (λ c. refl)

pub recover_as_lem : IsModel (recover_as is_master layout_on always_numbers)
unfolding step_by conditions_of done_by recovered
recover_as_lem w = other_recover_lem w _ refl

pub write_naming_lem : IsModel (write_naming with_name)
unfolding step_by conditions_of done_by written written_card writer_after
write_naming_lem w = other_write_lem w _ (λ task c b o v. refl)

-- paper 02, (h): byte 9, with 36 asked where it takes a block and its transaction has three
report_same : (w : World) (task : Task) (c b o : ℕ) (v : Bytes)
    → other_report (limit_asking takes_block max_report_taken) (WRITE task c b o v) w ≡ step (WRITE task c b o v) w
unfolding step_by conditions_of done_by write_conditions
report_same w lamp_task c b o v = refl
report_same w report_task c b o v = refl

pub limit_asking_lem : IsModel (other_report (limit_asking takes_block max_report_taken))
limit_asking_lem w = other_write_lem w _ (report_same w)
