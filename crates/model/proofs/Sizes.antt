-- The disk keeps its 32,896 bytes, memory its 16,384, and the card's arrays their lengths, through every command.
-- So no command of a tape that starts with such slices meets refusal 1.
use Prim.Native.Nat.{ℕ, suc, ◌+◌, ◌*◌, ◌≤◌, ◌<◌, ◌%◌}
use native.Mathlib.Omega.{arith}
use native.Mathlib.Nat.{mod-lt}
use mathlib.Core.Path.{◌≡◌, refl, sym, ap, ◌∙◌, subst}
use mathlib.Core.Bool.{Bool, false, cond}
use mathlib.Core.List.{List, [], ◌∷◌}
use lib.ListN.{length, replicate, length-replicate}
use borrow.Author.Tests.{ltb-false, leb-false}
use Rattle.model.specs.Bytes.{Bytes, block_at, store, zero_disk, zero_memory}
use Rattle.model.specs.Shape.{home_block, new_shape}
use Rattle.model.specs.Card.{taken, shape_of, core_of, blank_card}
use Rattle.model.specs.Command.{DiskStore, with_store, World, Outcome, no_core, no_block, Clear, Decided, refused, carried_out}
use Rattle.model.specs.Valid.{Order}
use Rattle.model.specs.Format.{formatted_disk, formatted}
use Rattle.model.specs.Write.{write_conditions, loads_image, rule_for, written_memory, written}
use Rattle.model.specs.Commit.{copy_block, copied, close_conditions, closed, stored}
use Rattle.model.specs.Checkpoint.{stored_home, stored_master, checkpointed, retired_oldest}
use Rattle.model.specs.Recovery.{layout_on, blocks_left, recover_step, recovered_by, recovered}
use Rattle.model.specs.Tape.{block_limit, Point, CHECKPOINT, CLOSE, CUT, Command, FORMAT, RECOVER, RETIRE, Read, STORE, WRITE, early, read_at, unknown, whole}
use Rattle.model.proofs.Limits.{InRange}
use Rattle.model.specs.Lists.{Each}
use Rattle.model.proofs.Store.{length_replaced, length_store, length_block_at}
use Rattle.model.proofs.Encoding.{length_master}
use Rattle.model.proofs.Command.{of_cond, command_decided}
use Rattle.model.proofs.Tape.{Runs, at_end, one_more, OfData, length_data, whole_data}
use Rattle.model.proofs.Arrays.{Arrays, core_fits, empty_arrays, done_arrays}
use Rattle.model.proofs.OneStore.{shape_limits, right_lengths, few_taken, OneStore, StoreFits, none_stored, one_stored, store_place_low, format_limits, done_store, is_format, stored_limits}
use Rattle.model.specs.Step.{conditions_of, conditions_on, done_by, done_on, step_at_by}
use Rattle.model.specs.declared.Shape.{Shape}
use Rattle.model.specs.declared.CommitLayout.{CommitLayout}
use Rattle.model.specs.declared.CommitLayout.TheVariants.{Numbers}
use Rattle.model.specs.declared.Phase.TheVariants.{Blank}

pub record SizedWorld (w : World) : Type 0 where
  pub disk : length w.disk ≡ 32896
  pub memory : length w.memory ≡ 16384
  pub arrays : Arrays w.card

-- ---- the disk
fitting_length : {s : Shape} {b : DiskStore} (d : Bytes) → InRange s → length d ≡ 32896 → StoreFits s b → length (with_store b d) ≡ 32896
fitting_length d l n none_stored = n
fitting_length d l n (one_stored {b} p h) = length_store d b.place b.bytes (omega (arith, store_place_low l p)) h ∙ n

one_length : {s : Shape} {w : World} {o : Outcome World} → InRange s → length w.disk ≡ 32896 → OneStore s w o → length o.world.disk ≡ 32896
one_length {w = w} l n x = ap length x.makes.disk ∙ fitting_length w.disk l n x.fits

formatted_disk_lem : (s : Shape) → InRange s → length (formatted s).world.disk ≡ 32896
unfolding formatted formatted_disk zero_disk
formatted_disk_lem s l = length_store (replicate 32896 0) 0 _ (rw length-replicate (omega arith)) (length_master Numbers l _) ∙ length-replicate {A = ℕ} 32896 0

-- ---- memory
pub length_copied : (c i : ℕ) (bs : List ℕ) (m : Bytes) → c < 8 → i + length bs ≤ 8 → length m ≡ 16384 → length (copied c i bs m) ≡ 16384
unfolding copied copy_block
length_copied c i [] m h j n = n
length_copied c i (b ∷ bs) m h j n =
    let q : length (block_at m (b % 64)) ≡ 128 = length_block_at 128 m n (b % 64) (let r : b % 64 < 64 = mod-lt b (omega arith) in omega arith) in
    length_copied c (suc i) bs _ h (omega arith) (length_store m (copy_block c i) (block_at m (b % 64)) (omega arith) q ∙ n)

length_closed : (c : ℕ) (w : World) → Arrays w.card → Clear (close_conditions c w) → length (closed c w).world.memory ≡ 16384
unfolding close_conditions closed no_core
length_closed c w f cl =
    let h : c < (shape_of w.card).cores = leb-false _ c cl.1.1.1.0 in
    let l = shape_limits w.card in
    let t = (core_of w.card c).running in
    length_copied c 0 (taken t) w.memory (omega arith) (omega (arith, few_taken t (core_fits w.card f c).running)) (right_lengths w cl.0).1

length_written : (limit c b o : ℕ) (v : Bytes) (w : World) → length v ≡ 4 → Clear (write_conditions limit c b o w) → length (written c b o v w).world.memory ≡ 16384
unfolding write_conditions written written_memory no_block
length_written limit c b o v w z cl =
    let h : b < (shape_of w.card).blocks = leb-false _ b cl.1.1.1.1.0 in
    let i : o ≤ 124 = ltb-false 124 o cl.1.1.1.1.1.0 in
    let l = shape_limits w.card in
    let n = right_lengths w cl.0 in
    let q : length (block_at w.disk (home_block b)) ≡ 128 = length_block_at 257 w.disk n.0 (home_block b) (omega arith) in
    let m = cond (loads_image (rule_for w.card c b)) (store w.memory b (block_at w.disk (home_block b))) w.memory in
    let e : length m ≡ 16384 =
    of_cond (λ (m : Bytes). length m ≡ 16384) (loads_image (rule_for w.card c b))
    (length_store w.memory b (block_at w.disk (home_block b)) (omega arith) q ∙ n.1) n.1 in
    length_replaced (128 * b + o) 4 m v (omega arith) z ∙ e

pub checkpointed_memory : (c : ℕ) (w : World) → (checkpointed c w).world.memory ≡ w.memory
unfolding checkpointed stored_home
checkpointed_memory c w = refl

pub retired_memory : (c : ℕ) (w : World) → (retired_oldest c w).world.memory ≡ w.memory
unfolding retired_oldest stored_master
retired_memory c w = refl

pub recover_step_memory : (o : Order) (y z : CommitLayout) (bs : List ℕ) (w : World) → (recover_step o y z bs w).world.memory ≡ w.memory
unfolding recover_step
recover_step_memory o y z [] w = refl
recover_step_memory o y z (b ∷ bs) w = refl

pub length_zero_memory : length zero_memory ≡ 16384
unfolding zero_memory
length_zero_memory = length-replicate {A = ℕ} 16384 0

decided_sized : {ts : List (Bool × ℕ)} {w : World} {done o : Outcome World} → Decided ts w done o → SizedWorld w → (Clear ts → SizedWorld done.world) → SizedWorld o.world
decided_sized {w = w} (refused n p f e) z h = subst (λ (o : Outcome World). SizedWorld o.world) (sym e) z
decided_sized (carried_out c e) z h = subst (λ (o : Outcome World). SizedWorld o.world) (sym e) (h c)

-- ---- every command
module _ (o : Order) where
  done_memory : (k : Command) (w : World) → OfData (λ (v : Bytes). length v ≡ 4) k → SizedWorld w → Clear (conditions_of o k w) → length (done_by o k w).world.memory ≡ 16384
  unfolding conditions_of done_by formatted stored recovered recovered_by
  done_memory (FORMAT c b j) w four z cl = length_zero_memory
  done_memory (WRITE task c b i v) w four z cl = length_written (block_limit task) c b i v w four cl
  done_memory (CLOSE c) w four z cl = length_closed c w z.arrays cl
  done_memory (STORE c) w four z cl = z.memory
  done_memory (CHECKPOINT c) w four z cl = rw (checkpointed_memory c w) z.memory
  done_memory CUT w four z cl = length_zero_memory
  done_memory RECOVER w four z cl = rw (recover_step_memory o (layout_on w.disk) Numbers (blocks_left o (layout_on w.disk) w) w) z.memory
  done_memory (RETIRE c) w four z cl = rw (retired_memory c w) z.memory

  stored_disk : (k : Command) (w : World) → SizedWorld w → is_format k ≡ false → Clear (conditions_of o k w) → length (done_by o k w).world.disk ≡ 32896
  stored_disk k w z h cl = one_length (stored_limits o k w cl) z.disk (done_store o k w z.arrays h cl)

  done_disk : (k : Command) (w : World) → SizedWorld w → Clear (conditions_of o k w) → length (done_by o k w).world.disk ≡ 32896
  done_disk (FORMAT c b j) w z cl = unfold done_by in formatted_disk_lem (new_shape c b j) (format_limits c b j w (unfold conditions_of in cl))
  done_disk (WRITE task c b i v) w z cl = stored_disk (WRITE task c b i v) w z refl cl
  done_disk (CLOSE c) w z cl = stored_disk (CLOSE c) w z refl cl
  done_disk (STORE c) w z cl = stored_disk (STORE c) w z refl cl
  done_disk (CHECKPOINT c) w z cl = stored_disk (CHECKPOINT c) w z refl cl
  done_disk CUT w z cl = stored_disk CUT w z refl cl
  done_disk RECOVER w z cl = stored_disk RECOVER w z refl cl
  done_disk (RETIRE c) w z cl = stored_disk (RETIRE c) w z refl cl

  pub done_sized : (k : Command) (w : World) → OfData (λ (v : Bytes). length v ≡ 4) k → SizedWorld w → Clear (conditions_of o k w) → SizedWorld (done_by o k w).world
  done_sized k w four z cl = record { disk = done_disk k w z cl; memory = done_memory k w four z cl; arrays = done_arrays o k w z.arrays }

  read_sized : (r : Read) (w : World) → ((k : Command) → r ≡ whole k → OfData (λ (v : Bytes). length v ≡ 4) k) → SizedWorld w → Clear (conditions_on o r w) → SizedWorld (done_on o r w).world
  unfolding conditions_on done_on
  read_sized (whole k) w four z cl = done_sized k w (four k refl) z cl
  read_sized unknown w four z cl = z
  read_sized early w four z cl = z

  pub command_sized : (t : Bytes) (at : ℕ) (w : World) → SizedWorld w → SizedWorld (step_at_by o t at w).world
  command_sized t at w z = decided_sized (command_decided o t at w) z (read_sized (read_at t at) w (λ k e. whole_data t at (λ (v : Bytes). length v ≡ 4) k e (length_data t at k e)) z)

  -- ---- a whole tape
  pub run_sized : (t : Bytes) {at n : ℕ} {w : World} {ps : List (Point World)} → Runs (step_at_by o) t at n w ps → SizedWorld w → Each (λ (p : Point World). SizedWorld p.before × SizedWorld p.outcome.world) ps
  run_sized t (at_end h) z = tt
  run_sized t (one_more {at} {w = w} {p = p} h e r) z =
      let y : SizedWorld p.outcome.world = subst (λ (p : Point World). SizedWorld p.outcome.world) (sym e) (command_sized t at w z) in
      ((subst (λ (p : Point World). SizedWorld p.before) (sym e) z, y), run_sized t r y)

-- 'The tape starts on a blank card, over slices of the stated lengths and any content.'
pub blank_sized : (d m : Bytes) → length d ≡ 32896 → length m ≡ 16384 → SizedWorld (record { card = blank_card; disk = d; memory = m })
unfolding blank_card
blank_sized d m h g = record { disk = h; memory = g; arrays = empty_arrays Blank }
