-- Along a tape: if each command keeps a relation `Related` of ledger and world and answers what the ledger says, then at every
-- point of every run the claims hold. The ledger's go along the points; demand 3 holds because service book and ledger
-- keep the same writes and the last RECOVER leaves the area that they give.
use Prim.Native.Nat.{ℕ, zero, suc, ◌+◌, ◌*◌, ◌<◌}
use native.Mathlib.Omega.{arith}
use mathlib.Core.Path.{◌≡◌, refl, sym, ap, ◌∙◌, subst}
use mathlib.Core.Logic.{◌≢◌}
use mathlib.Core.Bool.{Bool, true, false, true≢false}
use mathlib.Core.List.{List, [], ◌∷◌, flat_map}
use lib.ListN.{length}
use Rattle.model.specs.Lists.{below}
use Rattle.model.specs.Bytes.{Bytes, part, block_at}
use Rattle.model.specs.Shape.{home_block}
use Rattle.model.specs.Card.{is_blank, is_up, is_down}
use Rattle.model.specs.Command.{Outcome, refusal, refused_with, World, wrong_length}
use Rattle.model.specs.Tape.{Command, FORMAT, WRITE, CLOSE, STORE, CHECKPOINT, CUT, RECOVER, RETIRE, Read, whole, unknown, early, is_unknown, is_early, read_at, operands_at, TapeStep, Point, obeyed, command_at, heard, command_byte, operand_length}
use Rattle.model.specs.Valid.{Order, in_sequence}
use Rattle.model.specs.Recovery.{home_area}
use Rattle.model.specs.Reading.{read_conditions, read_number, block_reader}
use Rattle.model.specs.Step.{conditions_of, done_by, step_by, step, step_at_by, step_at}
use Rattle.model.proofs.Lists.{cases, flat_map_below}
use Rattle.model.proofs.RecoveredArea.{area_blocks}
use Rattle.model.proofs.WhileDown.{down_not_blank}
use Rattle.model.proofs.Command.{unless_done, refusal_passed, step_answer, step_refused, step_done}
use Rattle.model.proofs.Tape.{OfData, whole_data, length_data, whole_injective, Runs, at_end, one_more, run_runs}
use Rattle.crash.specs.Book.{image, blank, has_running}
use Rattle.crash.specs.Service.{Service, empty_service, cut_service, served, fed, book_area}
use Rattle.crash.specs.Ledger.{Ledger, fresh_ledger, blank_ledger, close_ledger, cut_ledger, recover_ledger, carried_out, entered, write_refusals, close_refusals, store_refusals, checkpoint_refusals, retire_refusals, refusals_of, answer_of, kept_image}
use Rattle.crash.specs.Claims.{IsBytes, Start, StartFits, start_world, start_service, start_ledger, from_blank, from_down, fed_point, AreaKept, Claim, entered_point, Between, DoneAs, LedgerKept, Demands, ReadsNow, ReadingsKept, Readings}
use Rattle.crash.proofs.Books.Agreement.{Agrees, PhaseFor, start_agrees, heard_agrees, area_same}
use Rattle.crash.proofs.Disk.BlockBytes.{bytes_take, bytes_drop}
use Rattle.crash.proofs.Books.Tests.{clash}
use Rattle.model.specs.declared.Phase.{Phase}
use Rattle.model.specs.declared.Phase.TheVariants.{Blank, Up, Down}

-- ---- the data of a WRITE that stands on a tape: four bytes
abbrev pub HasData : Command → Type 0
HasData k = OfData (λ (v : Bytes). (length v ≡ 4) × IsBytes v) k

whole_bytes : (t : Bytes) → IsBytes t → (at : ℕ) (k : Command) → read_at t at ≡ whole k → HasData k
unfolding operands_at part
whole_bytes t b at k e =
    whole_data t at (λ (v : Bytes). (length v ≡ 4) × IsBytes v) k e
    (λ eight. (length_data t at k e eight, bytes_take 4 _ (bytes_drop 4 _ (bytes_take (operand_length (command_byte t at)) _ (bytes_drop (at + 1) t b)))))

-- ---- what each command keeps of a relation of ledger and world
-- the last RECOVER leaves the home area that the kept writes give
abbrev pub HomeGiven : Ledger → World → Type 0
HomeGiven l w = l.left ≡ [] → (b : ℕ) → b < l.shape.blocks → block_at w.disk (home_block b) ≡ kept_image l b

-- a command carried out
pub record Carried (Related : Ledger → World → Type 0) (l : Ledger) (w : World) (k : Command) : Type 0 where
  pub next : Related (carried_out k l) (done_by in_sequence k w).world
  pub done : DoneAs k l w (done_by in_sequence k w)
  pub home : k ≡ RECOVER → HomeGiven l (done_by in_sequence k w).world

pub record Simulation (Related : Ledger → World → Type 0) : Type 0 where
  pub sizes : (l : Ledger) (w : World) → Related l w → wrong_length w ≡ false
  pub between : (l : Ledger) (w : World) → Related l w → Between l w
  pub reads : (l : Ledger) (w : World) → Related l w → ReadsNow block_reader l w
  pub answers : (l : Ledger) (w : World) → Related l w → (k : Command) → refusal (conditions_of in_sequence k w) ≡ refusal (refusals_of k l)
  pub carries : (l : Ledger) (w : World) → Related l w → (k : Command) → HasData k → refusal (refusals_of k l) ≡ 0 → Carried Related l w k

module _ (Related : Ledger → World → Type 0) where
  -- what came of what stands at an offset, and the relation after it
  pub record PointKeeps (l : Ledger) (w : World) (r : Read) (o : Outcome World) : Type 0 where
    pub answer : o.answer ≡ answer_of r l
    pub refused : o.answer ≢ 0 → o ≡ refused_with o.answer w
    pub done : (k : Command) → r ≡ whole k → o.answer ≡ 0 → DoneAs k l w o
    pub next : Related (heard entered r o.answer l) o.world
    pub home : r ≡ whole RECOVER → o.answer ≡ 0 → HomeGiven l o.world

  -- a card each of whose commands goes so
  abbrev pub CardKeeps : TapeStep World → Type 0
  CardKeeps f = (t : Bytes) → IsBytes t → (at : ℕ) (l : Ledger) (w : World) → Related l w → PointKeeps l w (read_at t at) (f t at w)

  module _ (r : Simulation Related) (l : Ledger) (w : World) (here : Related l w) where
    unknown_keeps : PointKeeps l w unknown (refused_with 2 w)
    unfolding answer_of heard
    unknown_keeps = record { answer = refl; refused = λ n. refl; done = λ k e. absurd (true≢false (ap is_unknown e)); next = here; home = λ e. absurd (true≢false (ap is_unknown e)) }

    early_keeps : PointKeeps l w early (refused_with 3 w)
    unfolding answer_of heard
    early_keeps = record { answer = refl; refused = λ n. refl; done = λ k e. absurd (true≢false (ap is_early e)); next = here; home = λ e. absurd (true≢false (ap is_early e)) }

    module _ (k : Command) (fits : HasData k) where
      answer_same : (step_by in_sequence k w).answer ≡ refusal (refusals_of k l)
      answer_same = step_answer in_sequence k w ∙ r.answers l w here k

      refused_keeps : (n : ℕ) → (step_by in_sequence k w).answer ≡ suc n → PointKeeps l w (whole k) (step_by in_sequence k w)
      unfolding answer_of heard entered
      refused_keeps n e =
          let o : step_by in_sequence k w ≡ refused_with (step_by in_sequence k w).answer w = (step_refused in_sequence k w (omega (arith, e))).2 in
          record {
            answer = answer_same;
            refused = λ z. o;
            done = λ m q z. absurd (omega (arith, e, z));
            next = rw e (subst (Related l) (sym (ap (λ (o : Outcome World). o.world) o)) here);
            home = λ q z. absurd (omega (arith, e, z));
          }

      done_keeps : (step_by in_sequence k w).answer ≡ 0 → PointKeeps l w (whole k) (step_by in_sequence k w)
      unfolding answer_of heard entered
      done_keeps e =
          let o : step_by in_sequence k w ≡ done_by in_sequence k w = (step_done in_sequence k w e).1 in
          let c = r.carries l w here k fits (sym answer_same ∙ e) in
          record {
            answer = answer_same;
            refused = λ z. absurd (z e);
            done = λ m q z. subst (λ (x : Outcome World). DoneAs m l w x) (sym o) (subst (λ (m : Command). DoneAs m l w (done_by in_sequence k w)) (whole_injective q) c.done);
            next = rw e (subst (Related (carried_out k l)) (sym (ap (λ (o : Outcome World). o.world) o)) c.next);
            home = λ q z. subst (λ (x : Outcome World). HomeGiven l x.world) (sym o) (c.home (whole_injective q));
          }

      whole_keeps : PointKeeps l w (whole k) (step_by in_sequence k w)
      whole_keeps = by_answer (step_by in_sequence k w).answer refl
        where
          by_answer : (n : ℕ) → (step_by in_sequence k w).answer ≡ n → PointKeeps l w (whole k) (step_by in_sequence k w)
          by_answer zero e = done_keeps e
          by_answer (suc n) e = refused_keeps n e

    obeyed_keeps : (x : Read) → ((k : Command) → x ≡ whole k → HasData k) → PointKeeps l w x (obeyed (step_by in_sequence) x w)
    unfolding obeyed
    obeyed_keeps (whole k) h = whole_keeps k (h k refl)
    obeyed_keeps unknown h = unknown_keeps
    obeyed_keeps early h = early_keeps

  -- the model's card does
  pub point_keeps : Simulation Related → CardKeeps step_at
  unfolding step_at_by command_at refusal
  point_keeps r t b at l w here =
      subst (PointKeeps l w (read_at t at))
      (sym (unless_done ((wrong_length w, 1) ∷ []) w (obeyed step (read_at t at) w) (rw (r.sizes l w here))))
      (obeyed_keeps r l w here (read_at t at) (whole_bytes t b at))

  -- so does every card that is the same function
  pub same_keeps : Simulation Related → (f : TapeStep World) → ((t : Bytes) (at : ℕ) (w : World) → f t at w ≡ step_at t at w) → CardKeeps f
  same_keeps r f same t b at l w here = subst (PointKeeps l w (read_at t at)) (sym (same t at w)) (point_keeps r t b at l w here)

  -- What holds along a run: it holds at the end, and at a point where it does from there on.
  module _ (f : TapeStep World) (go : CardKeeps f) (Kept : Ledger → World → List (Point World) → Type 0)
      (ended : (l : Ledger) (w : World) → Related l w → Kept l w [])
      (more : (l : Ledger) (w : World) (p : Point World) (ps : List (Point World)) → Related l w → PointKeeps l w p.read p.outcome
      → Kept (entered_point p l) p.outcome.world ps → Kept l w (p ∷ ps)) where
    pub kept_along : (t : Bytes) → IsBytes t → {at n : ℕ} {l : Ledger} {w : World} {ps : List (Point World)} → Related l w → Runs f t at n w ps → Kept l w ps
    unfolding entered_point
    kept_along t b {l = l} {w = w} here (at_end h) = ended l w here
    kept_along t b {at} {n} {l} {w} here (one_more {p = p} {ps = ps} h e rest) =
        let g : PointKeeps l w p.read p.outcome = subst (λ (p : Point World). PointKeeps l w p.read p.outcome) (sym e) (go t b at l w here) in
        more l w p ps here g (kept_along t b g.next rest)

  module _ (r : Simulation Related) (f : TapeStep World) (go : CardKeeps f) (t : Bytes) (b : IsBytes t) {at n : ℕ} {l : Ledger} {w : World}
      {ps : List (Point World)} (here : Related l w) (run : Runs f t at n w ps) where
    -- Demands 1 and 2 and the course of recovery, at every point of a run.
    ledger_kept : LedgerKept l w ps
    ledger_kept =
        kept_along f go LedgerKept r.between
        (λ l w p ps here g rest. (record { between = r.between l w here; answer = g.answer; refused = g.refused; done = g.done }, rest)) t b here run

    -- What reading gives, at every point of a run.
    readings_kept : ReadingsKept block_reader l w ps
    readings_kept = kept_along f go (ReadingsKept block_reader) r.reads (λ l w p ps here g rest. (r.reads l w here, rest)) t b here run

-- ---- an answer 0 tells the phase
module _ (l : Ledger) where
  up_phase : (rest : List (Bool × ℕ)) → refusal ((is_blank l.phase, 20) ∷ (is_down l.phase, 22) ∷ rest) ≡ 0 → is_down l.phase ≡ false
  up_phase rest z = (refusal_passed _ 22 rest (omega arith) (refusal_passed _ 20 _ (omega arith) z).1).0

  down_only : (p : Phase) → is_blank p ≡ false → is_up p ≡ false → is_down p ≡ true
  down_only Blank b u = clash refl b
  down_only Up b u = clash refl u
  down_only Down b u = refl

  answered_phase : (k : Command) → refusal (refusals_of k l) ≡ 0 → PhaseFor k l.phase
  unfolding refusals_of write_refusals close_refusals store_refusals checkpoint_refusals retire_refusals
  answered_phase (FORMAT c b j) z = tt
  answered_phase (WRITE task c b o v) z = up_phase _ z
  answered_phase (CLOSE c) z = up_phase _ z
  answered_phase (STORE c) z = up_phase _ z
  answered_phase (CHECKPOINT c) z = up_phase _ z
  answered_phase CUT z = tt
  answered_phase RECOVER z = let y = refusal_passed _ 20 _ (omega arith) z in down_only l.phase y.0 (refusal_passed _ 23 [] (omega arith) y.1).0
  answered_phase (RETIRE c) z = up_phase _ z

-- ---- demand 3
-- service book and ledger count the same home blocks
recover_shape : (l : Ledger) (bs : List ℕ) → (recover_ledger bs l).shape.blocks ≡ l.shape.blocks
unfolding recover_ledger fresh_ledger
recover_shape l [] = refl
recover_shape l (b ∷ bs) = refl

module _ (v : Service) (l : Ledger) (same : v.blocks ≡ l.shape.blocks) where
  pub served_blocks : (k : Command) → (served k v).blocks ≡ (carried_out k l).shape.blocks
  unfolding served carried_out empty_service cut_service fresh_ledger cut_ledger close_ledger
  served_blocks (FORMAT c b j) = refl
  served_blocks (WRITE task c b o d) = same
  served_blocks (CLOSE c) = cases (has_running l.book c) (λ e. rw e same) (λ e. rw e same)
  served_blocks (STORE c) = same
  served_blocks (CHECKPOINT c) = same
  served_blocks CUT = same
  served_blocks RECOVER = same ∙ sym (recover_shape l l.left)
  served_blocks (RETIRE c) = same

  heard_blocks : (r : Read) (n : ℕ) → (heard fed r n v).blocks ≡ (heard entered r n l).shape.blocks
  unfolding heard fed entered
  heard_blocks (whole k) zero = served_blocks k
  heard_blocks (whole k) (suc n) = same
  heard_blocks unknown n = same
  heard_blocks early n = same

module _ (Related : Ledger → World → Type 0) (r : Simulation Related) where
  -- a card that is down is read with 22
  down_reads : (l : Ledger) (w : World) → Related l w → is_down w.card.phase ≡ true → read_number 0 w ≡ 22
  unfolding read_number read_conditions refusal
  down_reads l w here d = rw (r.sizes l w here, down_not_blank w.card.phase d, d)

  module _ (v : Service) (l : Ledger) (w : World) (x : Read) (o : Outcome World) (g : PointKeeps Related l w x o) (agrees : Agrees v l) where
    pub agrees_after : Agrees (heard fed x o.answer v) (heard entered x o.answer l)
    unfolding answer_of
    agrees_after =
        heard_agrees v l x o.answer
        (λ k e z. answered_phase l k (sym (subst (λ (y : Read). o.answer ≡ answer_of y l) e g.answer) ∙ z)) agrees

    module _ (is_recover : x ≡ whole RECOVER) (is_done : o.answer ≡ 0) (is_up : read_number 0 o.world ≢ 22) where
      after_is : heard entered x o.answer l ≡ recover_ledger l.left l
      unfolding heard entered carried_out
      after_is = rw (is_recover, is_done) refl

      next_after : Related (recover_ledger l.left l) o.world
      next_after = subst (λ (l : Ledger). Related l o.world) after_is g.next

      -- while a home store is left, the card stays down
      none_left : (bs : List ℕ) → l.left ≡ bs → l.left ≡ []
      unfolding recover_ledger
      none_left [] e = e
      none_left (b ∷ bs) e =
          let n : Related (recover_ledger (b ∷ bs) l) o.world = rw e at next_after in
          let d : is_down o.world.card.phase ≡ true = ap is_down (r.between _ _ n).phase in
          absurd (is_up (down_reads _ _ n d))

      area_at : v.blocks ≡ l.shape.blocks → home_area v.blocks o.world ≡ book_area (heard fed x o.answer v)
      unfolding home_area book_area recover_ledger fresh_ledger
      area_at same =
          let v₂ = heard fed x o.answer v in
          let e = none_left l.left refl in
          let a : Agrees v₂ (recover_ledger [] l) = subst (λ (bs : List ℕ). Agrees v₂ (recover_ledger bs l)) e (subst (Agrees v₂) after_is agrees_after) in
          let after : v₂.blocks ≡ l.shape.blocks = heard_blocks v l same x o.answer ∙ ap (λ (l : Ledger). l.shape.blocks) after_is ∙ recover_shape l l.left in
          ap (λ (n : ℕ). part 128 (128 * n) o.world.disk) same
          ∙ area_blocks o.world.disk l.shape.blocks
          ∙ flat_map_below (λ (b : ℕ). block_at o.world.disk (home_block b)) (image blank v₂.saved) l.shape.blocks
          (λ b h. g.home is_recover is_done e b h ∙ sym (area_same v₂ (recover_ledger [] l) refl a b))
          ∙ ap (λ (n : ℕ). flat_map (image blank v₂.saved) (below n)) (sym after)

  -- At every point of a run where the card comes up, the home area is the book's area.
  area_kept : (f : TapeStep World) → CardKeeps Related f → (t : Bytes) → IsBytes t → {at n : ℕ} {v : Service} {l : Ledger} {w : World} {ps : List (Point World)} → Related l w → Agrees v l
      → v.blocks ≡ l.shape.blocks → Runs f t at n w ps → AreaKept v ps
  unfolding fed_point
  area_kept f go t b here agrees same (at_end h) = tt
  area_kept f go t b {at} {n} {v} {l} {w} here agrees same (one_more {p = p} h e rest) =
      let g : PointKeeps Related l w p.read p.outcome = subst (λ (p : Point World). PointKeeps Related l w p.read p.outcome) (sym e) (go t b at l w here) in (
        λ c. area_at v l w p.read p.outcome g agrees c.is_recover c.is_done c.is_up same,
        area_kept f go t b g.next (agrees_after v l w p.read p.outcome g agrees) (heard_blocks v l same p.read p.outcome.answer) rest,
      )

-- ---- from every start
pub start_blocks : (o : Order) (s : Start) → (start_service o s).blocks ≡ (start_ledger o s).shape.blocks
unfolding start_service start_ledger empty_service cut_ledger fresh_ledger blank_ledger
start_blocks o (from_blank d m) = refl
start_blocks o (from_down y s m) = refl

module _ (Related : Ledger → World → Type 0) (r : Simulation Related) (starts : (s : Start) → StartFits s → Related (start_ledger in_sequence s) (start_world s))
    (f : TapeStep World) (go : CardKeeps Related f) where
  pub claim_kept : Claim in_sequence f
  claim_kept t b s h = area_kept Related r f go t b (starts s h) (start_agrees in_sequence s) (start_blocks in_sequence s) (run_runs f t (start_world s))

  pub demands_kept : Demands in_sequence f
  demands_kept t b s h = ledger_kept Related r f go t b (starts s h) (run_runs f t (start_world s))

  pub reading : Readings in_sequence block_reader f
  reading t b s h = readings_kept Related r f go t b (starts s h) (run_runs f t (start_world s))
