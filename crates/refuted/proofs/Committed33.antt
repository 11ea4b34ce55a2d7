-- A card whose 33 looks at committed transactions alone has the runs of the model's card, so it meets the same demands.
-- Let T be valid, and U closed with a lower stamp and a block that T took too. In the block's history U held it before T.
-- Each later holder names the one before it, or that one is retired: so with T all before it are kept, and U is committed.
-- 32 is answered before 33, so where 33 is asked T is valid.
use Prim.Native.Nat.{ℕ, zero, suc, ◌+◌, ◌<◌}
use native.Mathlib.Omega.{arith}
use native.Mathlib.Decide.{dec_lt}
use mathlib.Core.Path.{◌≡◌, refl, sym, ap, ◌∙◌, subst}
use mathlib.Core.Logic.{inl, inr, ⊎_elim}
use mathlib.Core.Bool.{Bool, true, false, So, not, ◌||◌}
use mathlib.Core.List.{List, [], ◌∷◌}
use lib.ListN.{length}
use lib.Dec.{eqb, leb, ltb}
use borrow.Author.Tests.{leb-false, ltb-true, not-false}
use Rattle.model.specs.Lists.{any, below}
use Rattle.model.specs.Bytes.{Bytes}
use Rattle.model.specs.Card.{new_name, is_blank, is_down, shape_of}
use Rattle.model.specs.Journal.{name_of}
use Rattle.model.specs.Valid.{in_sequence, is_in}
use Rattle.model.specs.Command.{World, Outcome, unless, no_core}
use Rattle.model.specs.Checkpoint.{valid_now, committed_of, oldest, share, shares_lower, oldest_conditions, images_left, checkpoint_conditions, retire_conditions, found_conditions, committed_conditions}
use Rattle.model.specs.Tape.{Command, CHECKPOINT, RETIRE, Read, whole, unknown, early, Step, Point, read_at, obeyed, run_from, run, command_byte, command_at, next_offset}
use Rattle.model.specs.Step.{conditions_of, done_by, step, step_by, step_at, step_at_by}
use Rattle.model.specs.Reading.{block_reader}
use Rattle.model.specs.declared.Shape.{Shape}
use Rattle.model.specs.declared.Name.{Name}
use Rattle.model.proofs.Lists.{cases, and_left, any_mem, mem_below}
use Rattle.model.proofs.Tape.{point_at}
use Rattle.model.proofs.Command.{unless_same}
use Rattle.crash.specs.Book.{is_committed, kept}
use Rattle.crash.specs.Ledger.{Ledger, valid_in}
use Rattle.crash.specs.Claims.{IsBytes, Start, StartFits, start_world, start_service, start_ledger, AreaKept, LedgerKept, ReadingsKept, Claim, Demands, Readings}
use Rattle.crash.proofs.Books.Tests.{clash, false_of, in_any, block_equality}
use Rattle.crash.proofs.Books.BookEntries.{oldest_name, uncommitted_name}
use Rattle.crash.proofs.Blocks.History.{Event, Took, Status, StatusSound, Chain, older, kept_link}
use Rattle.crash.proofs.Books.Largest.{member_of, stage_of, RetiredBelow, kept_largest, valid_is_kept}
use Rattle.crash.proofs.Blocks.Invariant.{Inv, history_of, homed, status, opened_of, sound_of}
use Rattle.crash.proofs.Disk.ReadMaster.{shape_up}
use Rattle.crash.proofs.Disk.ReadCheckpoint.{Lower, lower_closed, closed_lower, oldest_is, oldest_name_lem, none_committed, oldest_valid}
use Rattle.crash.proofs.Commands.CardAnswers.{SameConditions, none_left, then, same_refusal}
use Rattle.crash.proofs.Runs.RunClaims.{PointKeeps, point_keeps}
use Rattle.crash.proofs.Runs.UpSteps.{RelatedUp, retired_below}
use Rattle.crash.proofs.Runs.Theorem.{blank_phase, Related, related_blank, related_up, related_down, related_simulation, claim, demands, readings, starts}
use Rattle.crash.proofs.Disk.Relation.{first_waiting}
use Rattle.refuted.specs.Wrong.{shares_committed, only_committed33}
use Rattle.refuted.specs.Parts.{on_tape, with_condition, asking, other_checkpoint}
use Rattle.refuted.proofs.Parts.{other_checkpoint_lem, other_retire_lem}

-- ---- one block's history
module _ {Txn : Type 0} (s : Status Txn) (sound : StatusSound s) (stored : Txn → Bool) {Image : Type 0} where
  -- whoever took the block before a kept holder is kept
  kept_before : (e : Event Txn Image) (es : List (Event Txn Image)) → Chain s stored (e ∷ es) → So (s.kept e.holder) → (u : Txn) → Took u (e ∷ es) → So (s.kept u)
  kept_before e [] c h u k = ⊎_elim (λ p. rw p at h) (λ m. absurd m) k
  kept_before e (x ∷ es) c h u k = ⊎_elim (λ p. rw p at h) (λ m. kept_before x es c.2 (kept_link s sound stored c.1 h) u m) k

  -- one with a lower stamp did not take it later
  not_later : (e : Event Txn Image) (es : List (Event Txn Image)) → Chain s stored (e ∷ es) → (t u : Txn) → Took t es → e.holder ≡ u
      → So (s.closed u) → s.stamp u < s.stamp t → ⊥
  not_later e es c t u k q o l =
      ⊎_elim
      (λ p. let d : s.stamp u ≡ s.stamp t = ap s.stamp (sym q ∙ p) in omega arith)
      (λ r. omega (arith, r.lower (rw q o), ap s.stamp q))
      (older s stored e es c t (inr k))

  -- one that took it with a lower stamp than a kept one is kept
  lower_kept : (es : List (Event Txn Image)) → Chain s stored es → (t u : Txn) → Took t es → Took u es
      → So (s.kept t) → So (s.closed u) → s.stamp u < s.stamp t → So (s.kept u)
  lower_kept [] c t u k m h o l = absurd k
  lower_kept (e ∷ es) c t u k m h o l =
      ⊎_elim
      (λ p. kept_before e es c (rw p h) u m)
      (λ k. ⊎_elim (λ q. absurd (not_later e es c t u k q o l)) (λ m. lower_kept es c.2 t u k m h o l) m)
      k

-- ---- the ledger
module _ {home : ℕ → Bytes} {l : Ledger} (v : Inv home l) (below_tail_lem : RetiredBelow l.book) where
  valid_kept : (t : Name) → So (member_of (valid_in l.book) t) → So (member_of (kept l.book) t)
  valid_kept t h =
      and_left (member_of (kept l.book) t) _
      (sym (valid_is_kept l.book (opened_of l.book v.known) below_tail_lem v.retired_kept t) ∙ h)

  lower_committed : (t u : Name) → So (member_of (valid_in l.book) t) → Lower l t u → So (is_committed (stage_of l.book u))
  unfolding share
  lower_committed t u valid low =
      let r = any_mem (λ (b : ℕ). any (eqb b) (l.book.entry u).blocks) (l.book.entry t).blocks low.shares in
      let b = r.0 in
      (kept_largest l.book (opened_of l.book v.known)).sub u
      (lower_kept (status l) (sound_of l v.known v.retired_kept) (homed l b) (history_of l b) (v.block_inv b).chain t u
      (v.took b t (in_any block_equality r.1)) (v.took b u r.2) (valid_kept t valid) low.is_closed_lem low.lower)

-- ---- the card
or_false : (a b : Bool) → b ≡ false → (a || b) ≡ a
or_false true b h = refl
or_false false b h = h

module _ {l : Ledger} {w : World} (u : RelatedUp l w) (c : ℕ) (in_range_lem : c < l.shape.cores) (some : l.book.oldest c < l.book.uncommitted c)
    (valid : member_of (valid_in l.book) (oldest_name c l.book) ≡ true) where
  -- the closed one of a core that is not committed
  not_committed : (i : ℕ) → i < l.shape.cores → is_committed (stage_of l.book (uncommitted_name i l.book)) ≡ false
  not_committed i h =
      let r = u.up.well_formed.ranks i h in
      elim (dec_lt (l.book.uncommitted i) (l.book.next i)) [
        | yes busy ↦ ap is_committed (first_waiting r busy).1
        | no free ↦ (let e : l.book.uncommitted i ≡ l.book.next i = omega (arith, r.mid) in
            subst (λ (n : ℕ). is_committed (stage_of l.book (new_name i n)) ≡ false) (sym e)
            (elim r.current [ inl a ↦ ap is_committed a | inr a ↦ ap is_committed a ]))
      ]

  none_closed : any (lower_closed u.up c (oldest (committed_of w c)) (oldest_is u.up c in_range_lem some)) (below (shape_of w.card).cores) ≡ false
  none_closed =
      let e = oldest (committed_of w c) in
      let x = oldest_is u.up c in_range_lem some in
      false_of _
      (λ h.
      let r = any_mem (lower_closed u.up c e x) (below (shape_of w.card).cores) h in
      let i : r.0 < l.shape.cores = subst (λ (s : Shape). r.0 < s.cores) (shape_up u.up) (mem_below (shape_of w.card).cores r.1) in
      let low = closed_lower u.up c e x r.0 i r.2 in
      clash
      (lower_committed u.inv (retired_below l u.up.well_formed) (oldest_name c l.book) (uncommitted_name r.0 l.book) valid
      (subst (λ (t : Name). Lower l t (uncommitted_name r.0 l.book)) (oldest_name_lem u.up c in_range_lem some) low))
      (not_committed r.0 i))

  same_33 : shares_committed w (oldest (committed_of w c)) ≡ shares_lower w (oldest (committed_of w c))
  unfolding shares_lower
  same_33 = sym (or_false (shares_committed w (oldest (committed_of w c))) _ none_closed)

-- ---- one command in a world of a run
module _ {l : Ledger} {w : World} (here : Related l w) (c : ℕ) where
  last_same : (a : Related l w) → is_blank w.card.phase ≡ false → is_down w.card.phase ≡ false → no_core w c ≡ false
      → eqb (length (committed_of w c)) 0 ≡ false → not (is_in (valid_now in_sequence w) (name_of (oldest (committed_of w c)))) ≡ false
      → shares_committed w (oldest (committed_of w c)) ≡ shares_lower w (oldest (committed_of w c))
  unfolding no_core
  last_same (related_blank b) up low core some valid = clash (ap is_blank (blank_phase b)) up
  last_same (related_down d) up low core some valid = clash (ap is_down d.phase) low
  last_same (related_up u) up low core some valid =
      let in_range_lem : c < l.shape.cores = leb-false _ c (subst (λ (s : Shape). leb s.cores c ≡ false) (shape_up u.up) core) in
      let more : l.book.oldest c < l.book.uncommitted c = ltb-true _ _ (not-false _ (sym (none_committed u.up c in_range_lem) ∙ some)) in
      same_33 u c in_range_lem more
      (sym (oldest_valid u.up c in_range_lem more) ∙ not-false _ valid)

  abbrev committed33 : Bool
  committed33 = shares_committed w (oldest (committed_of w c))

  -- with that 33 the conditions are the same
  abbrev Same33 : List (Bool × ℕ) → Type 0
  Same33 ts = SameConditions (with_condition 33 committed33 ts) ts

  own_same : (own : Bool) (n : ℕ) → eqb n 33 ≡ false → Same33 ((own, n) ∷ [])
  own_same own n other = rw other (then refl (λ _. none_left))

  -- what both ask, before a command's own condition
  same_conditions : (own : Bool) (n : ℕ) → eqb n 33 ≡ false → Same33 (oldest_conditions in_sequence c w ((own, n) ∷ []))
  unfolding committed_conditions found_conditions
  same_conditions own n other =
      then refl (λ size.
      then refl (λ up.
      then refl (λ low.
      then refl (λ core.
      then refl (λ some.
      then refl (λ valid.
      then (last_same here up low core some valid) (λ _. own_same own n other)))))))

  same_asking : (k : Command) → Same33 (conditions_of in_sequence k w) → asking 33 committed33 k w ≡ step k w
  unfolding step_by
  same_asking k h =
      let ts = conditions_of in_sequence k w in
      unless_same (with_condition 33 committed33 ts) ts w (done_by in_sequence k w) (same_refusal h)

pub same_step : (l : Ledger) (w : World) → Related l w → (k : Command) → only_committed33 k w ≡ step k w
unfolding conditions_of checkpoint_conditions retire_conditions
same_step l w here =
    let checkpoint : ℕ → World → Outcome World = λ c. only_committed33 (CHECKPOINT c) in
    other_retire_lem w (other_checkpoint step checkpoint)
    (other_checkpoint_lem w step (λ k. refl)
    checkpoint (λ c. same_asking here c (CHECKPOINT c) (same_conditions here c (not (images_left c w)) 35 refl)))
    (λ c. only_committed33 (RETIRE c)) (λ c. same_asking here c (RETIRE c) (same_conditions here c (images_left c w) 34 refl))

-- ---- along a tape
-- a card that does as the model's in every world of a run
module _ (f : Step World) (same : (l : Ledger) (w : World) → Related l w → (k : Command) → f k w ≡ step k w) (t : Bytes) (bytes : IsBytes t) where
  obeyed_same : (l : Ledger) (w : World) → Related l w → (r : Read) → obeyed step r w ≡ obeyed f r w
  unfolding obeyed
  obeyed_same l w here (whole k) = sym (same l w here k)
  obeyed_same l w here unknown = refl
  obeyed_same l w here early = refl

  command_same : (at : ℕ) (l : Ledger) (w : World) → Related l w → step_at t at w ≡ on_tape f t at w
  unfolding step_at_by command_at
  command_same at l w here = ap (unless _ w) (obeyed_same l w here (read_at t at))

  same_from : (most at n : ℕ) (l : Ledger) (w : World) → Related l w → run_from most step_at t at n w ≡ run_from most (on_tape f) t at n w
  unfolding run_from
  same_from zero at n l w here = refl
  same_from (suc most) at n l w here =
      cases (ltb at (length t))
      (λ h.
      let o = step_at t at w in
      let g : PointKeeps Related l w (read_at t at) o = point_keeps Related related_simulation t bytes at l w here in
      let rest : run_from most step_at t (next_offset t at) (n + o.stores) o.world ≡ run_from most (on_tape f) t (next_offset t at) (n + o.stores) o.world =
      same_from most (next_offset t at) (n + o.stores) _ o.world g.next in
      rw (h, run_from)
      (ap (λ (ps : List (Point World)). point_at step_at t at n w ∷ ps) rest
      ∙ ap (λ (o : Outcome World). record { offset = at; byte = command_byte t at; read = read_at t at; before = w; outcome = o; stores = n + o.stores } ∷ run_from most (on_tape f) t (next_offset t at) (n + o.stores) o.world)
      (command_same at l w here)))
      (λ h. rw (h, run_from) refl)

  run_same : (l : Ledger) (w : World) → Related l w → run step_at t w ≡ run (on_tape f) t w
  unfolding run
  run_same l w here = same_from (length t) 0 0 l w here

-- The runs are the same, from every start.
pub same_runs : (t : Bytes) → IsBytes t → (s : Start) → StartFits s → run step_at t (start_world s) ≡ run (on_tape only_committed33) t (start_world s)
same_runs t b s h = run_same only_committed33 same_step t b (start_ledger in_sequence s) (start_world s) (starts s h)

-- so no demand tells it from the model's card
pub claim_33 : Claim in_sequence (on_tape only_committed33)
claim_33 t b s h = subst (AreaKept (start_service in_sequence s)) (same_runs t b s h) (claim t b s h)

pub demands_33 : Demands in_sequence (on_tape only_committed33)
demands_33 t b s h = subst (LedgerKept (start_ledger in_sequence s) (start_world s)) (same_runs t b s h) (demands t b s h)

pub readings_33 : Readings in_sequence block_reader (on_tape only_committed33)
readings_33 t b s h = subst (ReadingsKept block_reader (start_ledger in_sequence s) (start_world s)) (same_runs t b s h) (readings t b s h)
