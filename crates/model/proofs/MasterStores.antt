-- Paper 02, (d): 'Bytes 8 to 11 of a new master hold 1.' Every master that a command stores is new: FORMAT's, RETIRE's and the closing one
-- of RECOVER. So after any coming up the master holds 1, and an older disk goes by its lists until then.
use Prim.Native.Nat.{ℕ, ◌≤◌}
use native.Mathlib.Omega.{arith}
use mathlib.Core.Path.{◌≡◌, refl, sym, ap, ◌∙◌, subst}
use mathlib.Core.Logic.{◌⊎◌, inl, inr}
use mathlib.Core.Bool.{true, false, true≢false, false≢true}
use mathlib.Core.List.{List, [], ◌∷◌}
use lib.ListN.{length, replicate, length-replicate}
use lib.Dec.{eqb}
use Rattle.model.specs.Bytes.{Bytes, be4, block_at, store, zero_disk, zero_memory}
use Rattle.model.specs.Shape.{new_shape, journal_block}
use Rattle.model.specs.Card.{is_up, is_down, new_tail, fresh_card, empty_card, down_card, shape_of, tail_of}
use Rattle.model.specs.Layout.{master_block, layout_in}
use Rattle.model.specs.Valid.{Order}
use Rattle.model.specs.Command.{World, Outcome, Clear}
use Rattle.model.specs.Tape.{Command, FORMAT, WRITE, CLOSE, STORE, CHECKPOINT, CUT, RECOVER, RETIRE}
use Rattle.model.specs.Format.{format_conditions, formatted_disk, formatted, format}
use Rattle.model.specs.Write.{written}
use Rattle.model.specs.Commit.{closed, store_conditions, stored}
use Rattle.model.specs.Checkpoint.{committed_of, oldest, checkpoint_conditions, retire_conditions, stored_home, stored_master, retired_card, checkpointed, retired_oldest, retire, found_conditions, committed_conditions}
use Rattle.model.specs.Recovery.{shape_on, layout_on, recover_conditions, recover_conditions_by, blocks_left, brought_up, emptied_tail, recover_step, recovered_by, recovered, recover}
use Rattle.model.specs.Step.{step_by, step_at_by, conditions_of, done_by}
use Rattle.model.specs.declared.Shape.{Shape}
use Rattle.model.specs.declared.Tail.{Tail}
use Rattle.model.specs.declared.CommitLayout.{CommitLayout}
use Rattle.model.specs.declared.CommitLayout.TheVariants.{Numbers}
use Rattle.model.proofs.Lists.{cases, and_right}
use Rattle.model.proofs.Limits.{InRange}
use Rattle.model.proofs.Store.{block_stored}
use Rattle.model.proofs.Encoding.{length_master}
use Rattle.model.proofs.OneStore.{shape_limits, right_lengths, StorePlace, store_place_low, fits_place, record_place, home_fits, recover_limits, format_limits, format_done}
use Rattle.model.proofs.Command.{clear_refusal, unless_done, step_decided}
use Rattle.model.proofs.WhileDown.{while_down}
use Rattle.model.proofs.OlderDisk.{is_closing, refused_open, by_decision, master_kept, master_word_1, recover_decided, recovered_kept}

-- a disk with a new master, of this shape and these tails
pub record NewMaster (d : Bytes) (s : Shape) (tail_at : ℕ → Tail) : Type 0 where
  pub master : block_at d 0 ≡ master_block Numbers s tail_at
  pub holds_1 : be4 (block_at d 0) 8 ≡ 1
  pub layout : layout_on d ≡ Numbers

new_master : (d : Bytes) (s : Shape) (tail_at : ℕ → Tail) → block_at d 0 ≡ master_block Numbers s tail_at → NewMaster d s tail_at
unfolding layout_on layout_in
new_master d s tail_at e =
    let one : be4 (block_at d 0) 8 ≡ 1 = ap (λ (m : Bytes). be4 m 8) e ∙ master_word_1 s tail_at in
    record { master = e; holds_1 = one; layout = rw one }

pub stored_new : (d : Bytes) (s : Shape) (tail_at : ℕ → Tail) → InRange s → 128 ≤ length d → NewMaster (store d 0 (master_block Numbers s tail_at)) s tail_at
stored_new d s tail_at l n = new_master _ s tail_at (block_stored d 0 (master_block Numbers s tail_at) n (length_master Numbers l tail_at))

-- ---- FORMAT
formatted_new : (s : Shape) → InRange s → NewMaster (formatted s).world.disk s (λ (c : ℕ). new_tail 1 0)
unfolding formatted formatted_disk zero_disk
formatted_new s l = stored_new (replicate 32896 0) s (λ (c : ℕ). new_tail 1 0) l (rw length-replicate (omega arith))

pub format_numbers : (c b j : ℕ) (w : World) → Clear (format_conditions c b j w) → NewMaster (format c b j w).world.disk (new_shape c b j) (λ (i : ℕ). new_tail 1 0)
format_numbers c b j w cl =
    subst (λ (x : Outcome World). NewMaster x.world.disk (new_shape c b j) (λ (i : ℕ). new_tail 1 0)) (sym (format_done c b j w cl))
    (formatted_new (new_shape c b j) (format_limits c b j w cl))

-- ---- RECOVER
step_new : (o : Order) (y : CommitLayout) (w : World) (bs : List ℕ) → InRange (shape_on w.disk) → length w.disk ≡ 32896 → is_up w.card.phase ≡ false
    → is_closing (recover_step o y Numbers bs w) ≡ true → NewMaster (recover_step o y Numbers bs w).world.disk (shape_on w.disk) (emptied_tail y w.disk)
unfolding recover_step brought_up fresh_card
step_new o y w [] l n u h = stored_new w.disk (shape_on w.disk) (emptied_tail y w.disk) l (omega (arith, n))
step_new o y w (b ∷ bs) l n u h = absurd (true≢false (sym h ∙ u))

module _ (o : Order) (w : World) where
  recovered_new : Clear (recover_conditions w) → is_closing (recovered o w) ≡ true
      → NewMaster (recovered o w).world.disk (shape_on w.disk) (emptied_tail (layout_on w.disk) w.disk)
  unfolding recovered recovered_by recover_conditions_by
  recovered_new c = let y = layout_on w.disk in step_new o y w (blocks_left o y w) (recover_limits w c) (right_lengths w c.0).0 c.1.1.0

  -- 'the closing master store of that recovery writes 1', over a disk of either layout
  pub up_numbers : is_closing (recover o w) ≡ true → NewMaster (recover o w).world.disk (shape_on w.disk) (emptied_tail (layout_on w.disk) w.disk)
  up_numbers =
      by_decision (λ (x : Outcome World). is_closing x ≡ true → NewMaster x.world.disk (shape_on w.disk) (emptied_tail (layout_on w.disk) w.disk))
      (recover_decided o w)
      (λ n h. absurd (false≢true (sym (refused_open n w) ∙ h)))
      recovered_new

-- ---- RETIRE
module _ (o : Order) (c : ℕ) (w : World) (cl : Clear (retire_conditions o c w)) where
  retired_new : let x = (retired_oldest c w).world.card in NewMaster (retired_oldest c w).world.disk (shape_of x) (tail_of x)
  unfolding retire_conditions retired_oldest stored_master committed_conditions found_conditions
  retired_new =
      let x = retired_card c (oldest (committed_of w c)) w.card in
      stored_new w.disk (shape_of x) (tail_of x) (shape_limits x) (omega (arith, (right_lengths w cl.0).0))

  -- of the shape and tails of the card as it then is
  pub retire_numbers : let x = (retire o c w).world.card in NewMaster (retire o c w).world.disk (shape_of x) (tail_of x)
  unfolding retire
  retire_numbers =
      subst (λ (x : Outcome World). NewMaster x.world.disk (shape_of x.world.card) (tail_of x.world.card))
      (sym (unless_done (retire_conditions o c w) w (retired_oldest c w) (clear_refusal (retire_conditions o c w) cl)))
      retired_new

-- ---- CHECKPOINT and STORE
-- a block at any other place leaves the master
place_kept : {s : Shape} {k : ℕ} (d x : Bytes) → InRange s → length d ≡ 32896 → StorePlace s k → 1 ≤ k
    → block_at (store d k x) 0 ≡ block_at d 0
place_kept {k = k} d x l n p one = master_kept d k x one (omega (arith, n, store_place_low l p))

checkpointed_kept : (o : Order) (c : ℕ) (w : World) → Clear (checkpoint_conditions o c w)
    → block_at (checkpointed c w).world.disk 0 ≡ block_at w.disk 0
unfolding checkpoint_conditions checkpointed stored_home committed_conditions found_conditions
checkpointed_kept o c w cl =
    place_kept w.disk _ (shape_limits w.card) (right_lengths w cl.0).0 (fits_place (home_fits c w o cl)) (omega arith)

store_kept : (c : ℕ) (w : World) → Clear (store_conditions c w) → block_at (stored c w).world.disk 0 ≡ block_at w.disk 0
unfolding store_conditions stored journal_block
store_kept c w cl = place_kept w.disk _ (shape_limits w.card) (right_lengths w cl.0).0 (record_place c w cl) (omega arith)

-- ---- every command
-- the master is as it was, or it is stored and holds 1
abbrev pub KeptOrNew : World → World → Type 0
KeptOrNew w v = (block_at v.disk 0 ≡ block_at w.disk 0) ⊎ (be4 (block_at v.disk 0) 8 ≡ 1)

module _ (o : Order) where
  done_master : (k : Command) (w : World) → Clear (conditions_of o k w) → KeptOrNew w (done_by o k w).world
  unfolding conditions_of done_by written closed
  done_master (FORMAT c b j) w cl = inr (formatted_new (new_shape c b j) (format_limits c b j w cl)).holds_1
  done_master (WRITE task c b i v) w cl = inl refl
  done_master (CLOSE c) w cl = inl refl
  done_master (STORE c) w cl = inl (store_kept c w cl)
  done_master (CHECKPOINT c) w cl = inl (checkpointed_kept o c w cl)
  done_master CUT w cl = inl refl
  done_master RECOVER w cl = cases (is_closing (recovered o w)) (λ h. inr (recovered_new o w cl h).holds_1) (λ h. inl (recovered_kept o w cl h))
  done_master (RETIRE c) w cl = inr (retired_new o c w cl).holds_1

  -- every master that a command stores holds 1
  pub masters_hold_1 : (k : Command) (w : World) → KeptOrNew w (step_by o k w).world
  masters_hold_1 k w = by_decision (λ (x : Outcome World). KeptOrNew w x.world) (step_decided o k w) (λ n. inl refl) (done_master k w)

-- ---- a card that is down over an older disk
-- down, and the master holds 0
abbrev pub OlderDown : World → Type 0
OlderDown w = (is_down w.card.phase ≡ true) × (be4 (block_at w.disk 0) 8 ≡ 0)

-- up, and the master holds 1
abbrev pub NewUp : World → Type 0
NewUp w = (is_up w.card.phase ≡ true) × (be4 (block_at w.disk 0) 8 ≡ 1)

step_down : (o : Order) (y z : CommitLayout) (w : World) (bs : List ℕ) → is_down w.card.phase ≡ true → is_closing (recover_step o y z bs w) ≡ false
    → is_down (recover_step o y z bs w).world.card.phase ≡ true
unfolding recover_step brought_up fresh_card
step_down o y z w [] d h = absurd (true≢false h)
step_down o y z w (b ∷ bs) d h = d

cut_older : (w : World) → OlderDown w → OlderDown (record { card = down_card; disk = w.disk; memory = zero_memory })
unfolding down_card empty_card fresh_card
cut_older w a = (refl, a.1)

module _ (o : Order) where
  recovered_older : (w : World) → OlderDown w → Clear (recover_conditions w) → OlderDown (recovered o w).world ⊎ NewUp (recovered o w).world
  recovered_older w a cl =
      cases (is_closing (recovered o w))
      (λ h. inr (and_right (eqb (recovered o w).answer 0) _ h, (recovered_new o w cl h).holds_1))
      (λ h.
      let y = layout_on w.disk in
      let down : is_down (recovered o w).world.card.phase ≡ true = (unfold recovered recovered_by in step_down o y Numbers w (blocks_left o y w) a.0 h) in
      inl (down, ap (λ (m : Bytes). be4 m 8) (recovered_kept o w cl h) ∙ a.1))

  -- a recovery of an older disk goes by its lists at every store until its last, however often it is cut, whatever else stands on the tape
  pub older_until_up : (t : Bytes) (at : ℕ) (w : World) → OlderDown w → OlderDown (step_at_by o t at w).world ⊎ NewUp (step_at_by o t at w).world
  older_until_up t at w a =
      while_down o w a.0 (λ (x : Outcome World). OlderDown x.world ⊎ NewUp x.world) (λ n. inl a) (inl (cut_older w a)) (recovered_older w a) t at
