-- The theorem: blank, up or down, card and ledger agree (`Related`), and every command keeps it so.
-- From one coming up to the next cut layer A and the bytes go together (`RelatedUp`); from a cut on, what recovery gives is
-- fixed (`CardDown`). The claims follow along the points of a run.
use Prim.Native.Nat.{ℕ, zero, suc, ◌<◌, ◌-◌, ◌≤◌}
use native.Mathlib.Omega.{arith}
use mathlib.Core.Path.{◌≡◌, refl, sym, ap, ◌∙◌, subst}
use mathlib.Core.Bool.{Bool, true, false, not}
use mathlib.Core.List.{List, [], ◌∷◌, ◌++◌}
use lib.ListN.{length}
use lib.Dec.{leb}
use borrow.Author.Tests.{ne_eqb, ltb-false, leb-false, lt-ltb}
use Rattle.model.specs.Lists.{below}
use Rattle.model.specs.Bytes.{Bytes}
use Rattle.model.specs.Shape.{in_range, new_shape}
use Rattle.model.specs.Card.{blank_card, is_blank, is_up, is_down, empty_card, fresh_card, shape_of}
use Rattle.model.specs.Command.{World, refusal, wrong_length, no_block}
use Rattle.model.specs.Valid.{Order, in_sequence}
use Rattle.model.specs.Format.{formatted}
use Rattle.model.specs.Write.{written}
use Rattle.model.specs.Commit.{closed, stored}
use Rattle.model.specs.Recovery.{layout_on, recovered, recovered_by, blocks_left}
use Rattle.model.specs.declared.CommitLayout.TheVariants.{Numbers}
use Rattle.model.proofs.Limits.{InRange, range_test}
use Rattle.model.proofs.Lists.{cases}
use Rattle.model.proofs.Command.{refusal_passed}
use Rattle.model.proofs.OneStore.{lengths_right}
use Rattle.crash.specs.Book.{Write, image, kept_writes, empty_book, is_running}
use Rattle.crash.specs.Service.{noted}
use Rattle.crash.specs.Ledger.{Ledger, fresh_ledger, blank_ledger, refusals_of, recover_ledger, format_refusals, write_refusals, close_refusals, store_refusals, checkpoint_refusals, retire_refusals, stored_since, disk_after, carried_out, memory_after, read_now, read_refusals}
use Rattle.crash.specs.Claims.{JournalsRead, Claim, Demands, DoneAs, Readings, Start, StartFits, from_blank, from_down, start_ledger, start_world}
use Rattle.crash.proofs.Commands.CardFormat.{format_home, format_up, down_start}
use Rattle.crash.proofs.Commands.CardRecover.{recover_home, recovered_home, recover_master, recovered_bytes}
use Rattle.crash.proofs.Commands.PhaseAnswers.{down_answers, blank_answers, up_answers}
use Rattle.crash.proofs.Disk.ReadRecords.{journals_read}
use Rattle.crash.proofs.Runs.RunClaims.{Simulation, CardKeeps, point_keeps, claim_kept, demands_kept, Carried, HasData, reading, same_keeps}
use Rattle.crash.proofs.Books.Tests.{clash}
use Rattle.crash.proofs.Disk.Relation.{CardUp, CardDown, target}
use Rattle.crash.proofs.Commands.CardCut.{cut_down}
use Rattle.crash.proofs.Commands.CardStore.{stored_bytes}
use Rattle.crash.proofs.Commands.CardCheckpoint.{checkpointed_bytes, retired_bytes}
use Rattle.model.specs.Tape.{Task, block_limit, CHECKPOINT, CLOSE, CUT, Command, FORMAT, RECOVER, RETIRE, STORE, TapeStep, WRITE}
use Rattle.crash.proofs.Runs.Unrefused.{in_range_of, may_close, may_store, may_checkpoint, may_retire}
use Rattle.crash.proofs.Runs.UpSteps.{RelatedUp, less_home, all_home, retire_at, checkpoint_at, close_at, close_memory, cut_at, fresh_at, holder_open, store_at, up_reads, write_at, write_memory}
use Rattle.model.proofs.Sizes.{checkpointed_memory, retired_memory, recover_step_memory}
use Rattle.model.specs.Step.{conditions_of, done_by, step_at}
use Rattle.model.specs.Reading.{read_block, block_reader, read_conditions, read_number}
use Rattle.crash.proofs.Disk.ReadMaster.{shape_up}
use Rattle.model.specs.declared.Shape.{Shape}
use Rattle.model.specs.declared.Card.{Card}
use Rattle.model.specs.declared.Phase.TheVariants.{Blank}
use Rattle.model.specs.declared.Phase.{Phase}

-- ---- blank, up or down
pub record RelatedBlank (l : Ledger) (w : World) : Type 0 where
  pub card : w.card ≡ blank_card
  pub ledger : l ≡ blank_ledger in_sequence
  pub disk : length w.disk ≡ 32896
  pub memory : length w.memory ≡ 16384

pub data Related (l : Ledger) (w : World) : Type 0 where
  related_blank : RelatedBlank l w → Related l w
  related_up : RelatedUp l w → Related l w
  related_down : CardDown l w → Related l w

-- of a command other than RECOVER
plain : {l : Ledger} {w : World} {k : Command} → (k ≡ RECOVER → ⊥) → Related (carried_out k l) (done_by in_sequence k w).world → DoneAs k l w (done_by in_sequence k w) → Carried Related l w k
plain n h d = record { next = h; done = d; home = λ e. absurd (n e) }

is_recover : Command → Bool
is_recover (FORMAT c b j) = false
is_recover (WRITE task c b o v) = false
is_recover (CLOSE c) = false
is_recover (STORE c) = false
is_recover (CHECKPOINT c) = false
is_recover CUT = false
is_recover RECOVER = true
is_recover (RETIRE c) = false

other : {k : Command} → is_recover k ≡ false → k ≡ RECOVER → ⊥
unfolding is_recover
other h e = clash (ap is_recover e) h

-- ---- blank: FORMAT brings the card up
module _ {l : Ledger} {w : World} (b : RelatedBlank l w) where
  -- any other command is refused with 20
  pub not_done : {A : Type 0} (ts : List (Bool × ℕ)) → refusal ((is_blank l.phase, 20) ∷ ts) ≡ 0 → A
  unfolding blank_ledger
  not_done ts h = clash (rw b.ledger refl) (refusal_passed (is_blank l.phase) 20 ts (omega arith) h).0

  at_format : (s : Shape) → InRange s → RelatedUp (fresh_ledger l.book.begun.order s [] (λ (c : ℕ). 1)) (formatted s).world
  unfolding blank_ledger empty_book image formatted
  at_format s r =
      let o : l.book.begun.order ≡ in_sequence = ap (λ (x : Ledger). x.book.begun.order) b.ledger in
      rw o (fresh_at in_sequence s [] (λ (c : ℕ). 1) (formatted s).world (format_up s r) (format_home Numbers s r))

  format_carried : (c n j : ℕ) → refusal (format_refusals c n j l) ≡ 0 → Carried Related l w (FORMAT c n j)
  unfolding format_refusals refusal done_by carried_out image blank_ledger disk_after memory_after formatted is_recover
  format_carried c n j h =
      let s : Shape = new_shape c n j in
      let ok : in_range c n j ≡ true =
      cases (in_range c n j) (λ e. e)
      (λ e. absurd (let p : is_blank l.phase ≡ true = rw b.ledger refl in let z : 4 ≡ 0 = rw (p, e) at h in omega arith)) in
      let r = range_test s ok in
      plain {l = l} {w = w} {k = FORMAT c n j} (other {k = FORMAT c n j} refl) (related_up (at_format s r)) (record { disk = refl; memory = refl; stores = refl })

  blank_carries : (k : Command) → refusal (refusals_of k l) ≡ 0 → Carried Related l w k
  unfolding refusals_of write_refusals close_refusals store_refusals checkpoint_refusals retire_refusals
  blank_carries (FORMAT c n j) h = format_carried c n j h
  blank_carries (WRITE task c n o v) h = not_done _ h
  blank_carries (CLOSE c) h = not_done _ h
  blank_carries (STORE c) h = not_done _ h
  blank_carries (CHECKPOINT c) h = not_done _ h
  blank_carries CUT h = not_done _ h
  blank_carries RECOVER h = not_done _ h
  blank_carries (RETIRE c) h = not_done _ h

-- ---- down: CUT starts over, RECOVER goes on
module _ {l : Ledger} {w : World} (d : CardDown l w) where
  -- FORMAT is refused with 21, the commands of a card that is up with 22
  pub refused_21 : {A : Type 0} (ts : List (Bool × ℕ)) → refusal ((not (is_blank l.phase), 21) ∷ ts) ≡ 0 → A
  refused_21 ts h = clash (ap (λ (p : Phase). not (is_blank p)) d.ledger) (refusal_passed _ 21 ts (omega arith) h).0

  pub refused_22 : {A : Type 0} (ts : List (Bool × ℕ)) → refusal ((is_blank l.phase, 20) ∷ (is_down l.phase, 22) ∷ ts) ≡ 0 → A
  refused_22 ts h = clash (ap is_down d.ledger) (refusal_passed _ 22 ts (omega arith) (refusal_passed _ 20 _ (omega arith) h).1).0

  recover_next : (left : List ℕ) → l.left ≡ left → Related (recover_ledger l.left l) (recovered in_sequence w).world
  unfolding target
  recover_next [] e =
      let up : CardUp (recover_ledger [] l) (recovered in_sequence w).world = recover_master d e in
      subst (λ (left : List ℕ). Related (recover_ledger left l) (recovered in_sequence w).world) (sym e)
      (related_up (unfold recover_ledger in fresh_at l.book.begun.order l.shape (kept_writes l.book ++ l.saved) _ (recovered in_sequence w).world up (recovered_home d e)))
  recover_next (b ∷ left) e = subst (λ (left : List ℕ). Related (recover_ledger left l) (recovered in_sequence w).world) (sym e) (related_down (recover_home d e))

  recover_carried : Carried Related l w RECOVER
  unfolding done_by carried_out disk_after memory_after target recovered recovered_by
  recover_carried =
      record {
        next = recover_next l.left refl;
        done = record { disk = (recovered_bytes d).0; memory = recover_step_memory in_sequence (layout_on w.disk) Numbers (blocks_left in_sequence (layout_on w.disk) w) w; stores = (recovered_bytes d).1 };
        home = λ _ e b h. recovered_home d e b h;
      }

  down_carries : (k : Command) → refusal (refusals_of k l) ≡ 0 → Carried Related l w k
  unfolding refusals_of format_refusals write_refusals close_refusals store_refusals checkpoint_refusals retire_refusals done_by carried_out disk_after memory_after is_recover
  down_carries (FORMAT c n j) h = refused_21 _ h
  down_carries (WRITE task c n o v) h = refused_22 _ h
  down_carries (CLOSE c) h = refused_22 _ h
  down_carries (STORE c) h = refused_22 _ h
  down_carries (CHECKPOINT c) h = refused_22 _ h
  down_carries CUT h = plain {l = l} {w = w} {k = CUT} (other {k = CUT} refl) (related_down (cut_down d)) (record { disk = refl; memory = refl; stores = refl })
  down_carries RECOVER h = recover_carried
  down_carries (RETIRE c) h = refused_22 _ h

-- ---- up
module _ {l : Ledger} {w : World} (u : RelatedUp l w) where
  write_carried : (task : Task) (c b o : ℕ) (v : Bytes) → HasData (WRITE task c b o v) → refusal (write_refusals (block_limit task) c b o v l) ≡ 0 → Carried Related l w (WRITE task c b o v)
  unfolding write_refusals done_by carried_out noted disk_after memory_after written is_recover
  write_carried task c b o v fits h =
      let z = in_range_of u c _ (omega arith, (omega arith, (omega arith, (omega arith, (omega arith, (omega arith, tt)))))) h in
      let y = z.1 in
      let low : b < l.shape.blocks = leb-false l.shape.blocks b y.0 in
      let inside : o ≤ 124 = ltb-false 124 o y.1.0 in
      plain (other refl)
      (related_up (write_at u c z.0 b low o inside v fits y.1.1.0 y.1.1.1.1.0 y.1.1.1.1.1.0))
      (record { disk = refl; memory = write_memory u c z.0 b low o inside v fits y.1.1.0 y.1.1.1.1.0 y.1.1.1.1.1.0; stores = refl })

  close_carried : (c : ℕ) → refusal (close_refusals c l) ≡ 0 → Carried Related l w (CLOSE c)
  unfolding done_by carried_out disk_after memory_after closed is_recover
  close_carried c h =
      let m = may_close u c h in
      plain (other refl) (rw (ap is_running m.runs) (related_up (close_at u c m.in_range_lem m.runs m.none_closed)))
      (record { disk = refl; memory = close_memory u c m.in_range_lem m.runs m.none_closed; stores = refl })

  store_carried : (c : ℕ) → refusal (store_refusals c l) ≡ 0 → Carried Related l w (STORE c)
  unfolding done_by carried_out noted disk_after memory_after stored is_recover
  store_carried c h =
      let m = may_store u c h in
      plain (other refl) (rw (lt-ltb _ _ m.some_closed) (related_up (store_at u c m.in_range_lem m.some_closed)))
      (record { disk = stored_bytes u.up c m.in_range_lem m.some_closed; memory = refl; stores = refl })

  checkpoint_carried : (c : ℕ) → refusal (checkpoint_refusals c l) ≡ 0 → Carried Related l w (CHECKPOINT c)
  unfolding done_by carried_out noted disk_after memory_after is_recover
  checkpoint_carried c h =
      let x = may_checkpoint u c h in
      let m = x.0 in
      let b = checkpointed_bytes u.up c m.in_range_lem m.some_committed (less_home u c m.in_range_lem m.some_committed m.valid m.none_shared x.1) in
      plain (other refl) (rw (lt-ltb _ _ m.some_committed) (related_up (checkpoint_at u c m.in_range_lem m.some_committed m.valid m.none_shared x.1)))
      (record { disk = b.0; memory = checkpointed_memory c w; stores = b.1 })

  retire_carried : (c : ℕ) → refusal (retire_refusals c l) ≡ 0 → Carried Related l w (RETIRE c)
  unfolding done_by carried_out noted disk_after memory_after is_recover
  retire_carried c h =
      let x = may_retire u c h in
      let m = x.0 in
      let b = retired_bytes u.up c m.in_range_lem m.some_committed (all_home u c m.in_range_lem m.some_committed m.valid m.none_shared x.1) in
      plain (other refl) (rw (lt-ltb _ _ m.some_committed) (related_up (retire_at u c m.in_range_lem m.some_committed m.valid m.none_shared x.1)))
      (record { disk = b.0; memory = retired_memory c w; stores = b.1 })

  -- FORMAT is refused with 21, RECOVER with 23
  pub up_21 : {A : Type 0} (ts : List (Bool × ℕ)) → refusal ((not (is_blank l.phase), 21) ∷ ts) ≡ 0 → A
  up_21 ts h = clash (ap (λ (p : Phase). not (is_blank p)) u.up.ledger) (refusal_passed _ 21 ts (omega arith) h).0

  pub up_23 : {A : Type 0} → refusal ((is_blank l.phase, 20) ∷ (is_up l.phase, 23) ∷ []) ≡ 0 → A
  up_23 h = clash (ap is_up u.up.ledger) (refusal_passed _ 23 [] (omega arith) (refusal_passed _ 20 _ (omega arith) h).1).0

  up_carries : (k : Command) → HasData k → refusal (refusals_of k l) ≡ 0 → Carried Related l w k
  unfolding refusals_of format_refusals done_by carried_out disk_after memory_after is_recover
  up_carries (FORMAT c n j) fits h = up_21 _ h
  up_carries (WRITE task c n o v) fits h = write_carried task c n o v fits h
  up_carries (CLOSE c) fits h = close_carried c h
  up_carries (STORE c) fits h = store_carried c h
  up_carries (CHECKPOINT c) fits h = checkpoint_carried c h
  up_carries CUT fits h = plain {l = l} {w = w} {k = CUT} (other {k = CUT} refl) (related_down (cut_at u)) (record { disk = refl; memory = refl; stores = refl })
  up_carries RECOVER fits h = up_23 h
  up_carries (RETIRE c) fits h = retire_carried c h

-- ---- every command keeps the relation, and the claims follow
pub blank_phase : {l : Ledger} {w : World} → RelatedBlank l w → w.card.phase ≡ Blank
unfolding blank_card empty_card fresh_card
blank_phase b = ap (λ (x : Card). x.phase) b.card

-- a reading answers by the ledger
read_number_lem : (l : Ledger) (w : World) → Related l w → (b : ℕ) → read_number b w ≡ refusal (read_refusals b l)
unfolding read_number read_conditions no_block refusal shape_of read_refusals blank_ledger
read_number_lem l w (related_blank h) b = rw (lengths_right w h.disk h.memory, blank_phase h, h.ledger) refl
read_number_lem l w (related_down h) b = rw (lengths_right w h.disk.size h.memory, h.phase, h.ledger) refl
read_number_lem l w (related_up h) b = rw (lengths_right w h.up.disk.size h.up.memory, h.up.phase, h.up.ledger, shape_up h.up) refl

read_bytes : (l : Ledger) (w : World) → Related l w → (b : ℕ) → read_block b w ≡ read_now b l
unfolding read_block read_now read_refusals refusal blank_ledger
read_bytes l w r b = go (refusal (read_refusals b l)) refl r
  where
    go : (n : ℕ) → refusal (read_refusals b l) ≡ n → Related l w → read_block b w ≡ read_now b l
    go (suc n) e r = rw (read_number_lem l w r b, e, ne_eqb (suc n) 0 (λ z. omega arith)) refl
    go zero e (related_up u) = up_reads u b (low (leb l.shape.blocks b) refl) ∙ sym (rw e refl)
      where
        low : (t : Bool) → leb l.shape.blocks b ≡ t → b < l.shape.blocks
        low true h = absurd (let q : refusal (read_refusals b l) ≡ 6 = rw (u.up.ledger, h) refl in omega arith)
        low false h = leb-false _ _ h
    go zero e (related_down d) = absurd (let q : refusal (read_refusals b l) ≡ 22 = rw d.ledger refl in omega arith)
    go zero e (related_blank h) = absurd (let q : refusal (read_refusals b l) ≡ 20 = rw h.ledger refl in omega arith)

pub related_simulation : Simulation Related
related_simulation = record { sizes = sizes; between = λ l w h. record { phase = phase l w h; journals = journals l w h }; reads = λ l w h b. (read_number_lem l w h b, read_bytes l w h b); answers = answers; carries = carries }
  where
    sizes : (l : Ledger) (w : World) → Related l w → wrong_length w ≡ false
    sizes l w (related_blank b) = lengths_right w b.disk b.memory
    sizes l w (related_up u) = lengths_right w u.up.disk.size u.up.memory
    sizes l w (related_down d) = lengths_right w d.disk.size d.memory

    phase : (l : Ledger) (w : World) → Related l w → w.card.phase ≡ l.phase
    phase l w (related_blank b) = blank_phase b ∙ sym (unfold blank_ledger in ap (λ (l : Ledger). l.phase) b.ledger)
    phase l w (related_up u) = u.up.phase ∙ sym u.up.ledger
    phase l w (related_down d) = d.phase ∙ sym d.ledger

    journals : (l : Ledger) (w : World) → Related l w → is_blank w.card.phase ≡ false → JournalsRead l w.disk
    journals l w (related_blank b) h = clash (ap is_blank (blank_phase b)) h
    journals l w (related_up u) h = journals_read u.up.well_formed u.up.disk
    journals l w (related_down d) h = journals_read d.well_formed d.disk

    answers : (l : Ledger) (w : World) → Related l w → (k : Command) → refusal (conditions_of in_sequence k w) ≡ refusal (refusals_of k l)
    answers l w (related_blank b) k =
        subst (λ (x : Ledger). refusal (conditions_of in_sequence k w) ≡ refusal (refusals_of k x)) (sym b.ledger) (blank_answers w b.card b.disk b.memory k)
    answers l w (related_up u) k = up_answers u.up (holder_open u) k
    answers l w (related_down d) k = down_answers d k

    carries : (l : Ledger) (w : World) → Related l w → (k : Command) → HasData k → refusal (refusals_of k l) ≡ 0 → Carried Related l w k
    carries l w (related_blank b) k fits h = blank_carries b k h
    carries l w (related_up u) k fits h = up_carries u k fits h
    carries l w (related_down d) k fits h = down_carries d k h

pub starts : (s : Start) → StartFits s → Related (start_ledger in_sequence s) (start_world s)
unfolding start_ledger start_world blank_ledger empty_book
starts (from_blank d m) h = related_blank (record { card = refl; ledger = refl; disk = h.stated.0; memory = h.stated.1 })
starts (from_down y s m) h = related_down (down_start y s m h.stated.0 h.memory h.stated.1)

-- a card whose commands go as the model's meets the claims
module _ (f : TapeStep World) (go : CardKeeps Related f) where
  pub claim_of : Claim in_sequence f
  claim_of = claim_kept Related related_simulation starts f go

  pub demands_of : Demands in_sequence f
  demands_of = demands_kept Related related_simulation starts f go

  pub readings_of : Readings in_sequence block_reader f
  readings_of = reading Related related_simulation starts f go

-- Demand 3, with request (c) in force: whenever recovery brings the card up, the home area is the blank one with the kept writes,
-- in issue order.
pub claim : Claim in_sequence step_at
claim = claim_of step_at (point_keeps Related related_simulation)

-- Demands 1 and 2 of the ledger, and the course of recovery.
pub demands : Demands in_sequence step_at
demands = demands_of step_at (point_keeps Related related_simulation)

-- What reading gives.
pub readings : Readings in_sequence block_reader step_at
readings = readings_of step_at (point_keeps Related related_simulation)

-- Whatever is the same function of tape, offset and world meets them too: nobody need believe how `step_at` is defined.
pub same_meets : (f : TapeStep World) → ((t : Bytes) (at : ℕ) (w : World) → f t at w ≡ step_at t at w) → Claim in_sequence f × Demands in_sequence f × Readings in_sequence block_reader f
same_meets f h = let g = same_keeps Related related_simulation f h in (claim_of f g, demands_of f g, readings_of f g)

-- 'A transaction uncommitted at a cut never commits': a card that has come up reads no transaction in any journal, and
-- by `demands` none ever but those opened since. A later bearer of its number is another one.
pub stored_since_fresh : (o : Order) (s : Shape) (saved : List Write) (first : ℕ → ℕ) (c : ℕ) → stored_since (fresh_ledger o s saved first) c ≡ []
unfolding stored_since fresh_ledger empty_book below
stored_since_fresh o s saved first c = let e : first c - first c ≡ 0 = omega arith in rw e refl
