-- For paper 02's (g): what recovery of the disk gives, `recovered_area`, is at every point of a run the area that the kept writes give.
-- CHECKPOINT and RETIRE change neither these nor what they are made over, done or refused: so a cut after any of them brings back what one
-- before them would.
use Rattle.model.proofs.Base.{ℕ, zero, suc, ◌<◌, arith, ◌≡◌, refl, sym, ap, subst, fun_ext, ◌∙◌, Bool, true, false, true≢false, List, [], ◌∷◌, ◌++◌, Memᴰ, length, flat_map, below, any, all, select, eqb, Bytes}
use Rattle.model.specs.Bytes.{block_at, zero_memory}
use Rattle.model.specs.Card.{is_blank, is_down, down_card}
use Rattle.model.specs.Command.{World, Outcome, refusal}
use Rattle.model.specs.Layout.{is_master}
use Rattle.model.specs.Tape.{CHECKPOINT, CLOSE, CUT, Command, FORMAT, Point, RECOVER, RETIRE, STORE, TapeStep, WRITE}
use Rattle.model.specs.Valid.{in_sequence}
use Rattle.model.specs.Recovery.{cut_conditions, cut, held_on, recovered_area}
use Rattle.model.specs.RecoveryClaims.{RecoversWhole}
use Rattle.model.specs.Step.{step, step_at, done_by, world_by}
use Rattle.model.specs.Shrink.{shrink}
use Rattle.model.specs.declared.Name.{Name}
use Rattle.model.specs.declared.Shape.{Shape}
use Rattle.model.specs.declared.Tail.{Tail}
use Rattle.model.specs.declared.CommitLayout.{CommitLayout}
use Rattle.model.proofs.Lists.{cases, flat_map_below, and_left, and_right}
use Rattle.model.proofs.SameShrink.{select_alike}
use Rattle.model.proofs.Command.{unless_done, step_answer, step_refused, step_done}
use Rattle.model.proofs.Tape.{run_runs}
use Rattle.model.proofs.RecoveredArea.{image_on, not_held, recovers_whole, cut_unbegun}
use Rattle.model.proofs.OneStore.{lengths_right}
use Rattle.model.specs.Card.{same_name}
use Rattle.model.proofs.Command.{refusal_passed, clear_refusal}
use Rattle.crash.specs.Book.{image, blank, Book, Entry, Write, committed, is_committed, checkpoint_book, retire_book, committed_in, required_within, kept, kept_writes, Stage, retired}
use Rattle.crash.specs.Ledger.{Ledger, with_book, kept_image, refusals_of, checkpoint_refusals, retire_refusals}
use Rattle.crash.specs.Claims.{start_world}
use Rattle.crash.specs.Spans.{in_span, CutGives, SpanKeeps, SpansKeep, Spans, kept_area, AreaGiven, AreasGiven, RecoversKept}
use Rattle.crash.proofs.Books.Tests.{clash, any_in, block_equality}
use Rattle.crash.proofs.Books.BookSteps.{restaged, checkpoint_home, retire_restages}
use Rattle.crash.proofs.Books.BookEntries.{change_by, oldest_name}
use Rattle.crash.proofs.Books.Required.{required_same}
use Rattle.crash.proofs.Disk.Relation.{WellFormed, DiskStands, CardDown, target}
use Rattle.crash.proofs.Disk.ReadMaster.{master_stands, shape_read}
use Rattle.crash.proofs.Disk.ReadValid.{blocks_on}
use Rattle.crash.proofs.Disk.ReadNewest.{newest_image_lem}
use Rattle.crash.proofs.Commands.CardCut.{TargetsStand, down_gives}
use Rattle.crash.proofs.Runs.RunClaims.{CardKeeps, point_keeps, kept_along}
use Rattle.crash.proofs.Runs.Unrefused.{may_checkpoint, may_retire}
use Rattle.crash.proofs.Runs.UpSteps.{RelatedUp, up_gives, checkpoint_at, retire_at}
use Rattle.crash.proofs.Runs.Theorem.{Related, related_blank, related_up, related_down, related_simulation, starts, blank_phase}

-- ---- what recovery of the disk gives is what the kept writes give
module _ {y : CommitLayout} {l : Ledger} {d : Bytes} {tail_at : ℕ → Tail} (f : WellFormed l) (z : DiskStands y l d tail_at) (g : TargetsStand l d) where
  image_target : (b : ℕ) → b < l.shape.blocks → image_on d b ≡ target l b
  image_target b h =
      cases (any (eqb b) (held_on d))
      (λ t. newest_image_lem f z (g.held b h (subst (Memᴰ b) (blocks_on f z) (any_in block_equality b (held_on d) t))))
      (λ n. not_held d b (subst (λ (s : Shape). b < s.blocks) (sym (shape_read f z)) h) n ∙ g.home b h (ap (any (eqb b)) (sym (blocks_on f z)) ∙ n))

  pub area_target : recovered_area d ≡ kept_area l
  unfolding recovered_area kept_area target
  area_target = ap (λ (s : Shape). flat_map (image_on d) (below s.blocks)) (shape_read f z) ∙ flat_map_below (image_on d) (target l) l.shape.blocks image_target

-- ---- one that is committed and stays so leaves the kept writes as they are
module _ (t : Name) (g : Stage) (oldest uncommitted next : ℕ → ℕ) (k : Book) (committed_still : is_committed g ≡ is_committed (k.entry t).stage) where
  abbrev after : Book
  after = restaged t g oldest uncommitted next k

  names_stay : (u : Name) → (after.entry u).names ≡ (k.entry u).names
  names_stay u = change_by t _ k.entry (λ (e : Entry). e.names) refl u

  committed_stays : (u : Name) → is_committed (after.entry u).stage ≡ is_committed (k.entry u).stage
  committed_stays u = change_by t _ k.entry (λ (e : Entry). is_committed e.stage) committed_still u

  required_stays : (ts : List Name) (u : Name) → required_within after ts u ≡ required_within k ts u
  unfolding required_within
  required_stays ts u = ap (all (λ (n : Name). any (same_name n) ts)) (required_same k after u refl (names_stay u))

  kept_stays : kept after ≡ kept k
  unfolding kept committed_in
  kept_stays =
      ap (λ (f : List Name → Name → Bool). shrink f (committed_in after)) (fun_ext (λ ts. fun_ext (λ u. required_stays ts u)))
      ∙ ap (shrink (required_within k)) (select_alike _ _ k.opened (λ u h. committed_stays u))

  writes_stay : kept_writes after ≡ kept_writes k
  unfolding kept_writes
  writes_stay = ap (λ (ts : List Name). select (λ (w : Write). any (same_name w.writer) ts) k.writes) kept_stays

-- and what they give
image_stays : (l : Ledger) (k : Book) → kept_writes k ≡ kept_writes l.book → (b : ℕ) → kept_image (with_book l k) b ≡ kept_image l b
image_stays l k e b = ap (λ (ws : List Write). image blank (ws ++ l.saved) b) e

-- CHECKPOINT and RETIRE
module _ (c : ℕ) (l : Ledger) {m : ℕ} (stage : (l.book.entry (oldest_name c l.book)).stage ≡ committed m) where
  checkpoint_target : (b : ℕ) → target (with_book l (checkpoint_book c l.book)) b ≡ target l b
  unfolding target
  checkpoint_target =
      image_stays l (checkpoint_book c l.book)
      (ap kept_writes (checkpoint_home c m l.book stage)
      ∙ writes_stay (oldest_name c l.book) (committed (suc m)) _ _ _ l.book (sym (ap is_committed stage)))

  retire_target : (b : ℕ) → target (with_book l (retire_book c l.book)) b ≡ target l b
  unfolding target
  retire_target =
      image_stays l (retire_book c l.book)
      (ap kept_writes (retire_restages c m l.book) ∙ writes_stay (oldest_name c l.book) retired _ _ _ l.book (sym (ap is_committed stage)))

-- ---- a card that is up or down: what a cut brings back is the target
-- a run is here, and the card is not blank
data Stands (l : Ledger) (w : World) : Type 0 where
  stands_up : RelatedUp l w → Stands l w
  stands_down : CardDown l w → Stands l w

to_related : {l : Ledger} {w : World} → Stands l w → Related l w
to_related (stands_up u) = related_up u
to_related (stands_down d) = related_down d

of_related : {l : Ledger} {w : World} → Related l w → is_blank w.card.phase ≡ false → Stands l w
of_related (related_up u) h = stands_up u
of_related (related_down d) h = stands_down d
of_related (related_blank b) h = clash (ap is_blank (blank_phase b)) h

-- what is known of it
record Fit (l : Ledger) (w : World) : Type 0 where
  area : recovered_area w.disk ≡ kept_area l
  size : length w.disk ≡ 32896
  memory : length w.memory ≡ 16384
  fit : is_master (block_at w.disk 0) ≡ true
  not_blank_lem : is_blank w.card.phase ≡ false

fits : {l : Ledger} {w : World} → Stands l w → Fit l w
fits (stands_up u) =
    let v = u.up in
    record { area = area_target v.well_formed v.disk (up_gives u); size = v.disk.size; memory = v.memory; fit = master_stands v.well_formed v.disk; not_blank_lem = ap is_blank v.phase }
fits (stands_down v) =
    record { area = area_target v.well_formed v.disk (down_gives v); size = v.disk.size; memory = v.memory; fit = master_stands v.well_formed v.disk; not_blank_lem = ap is_blank v.phase }

module _ {l : Ledger} {w : World} (f : Fit l w) where
  cut_done : (cut w).world ≡ record { card = down_card; disk = w.disk; memory = zero_memory }
  unfolding cut cut_conditions
  cut_done =
      ap (λ (o : Outcome World). o.world)
      (unless_done (cut_conditions w) w _ (clear_refusal (cut_conditions w) (lengths_right w f.size f.memory, (f.not_blank_lem, tt))))

  cut_gives : (area : Bytes) → recovered_area w.disk ≡ area → CutGives area w
  cut_gives area e =
      let v : World = record { card = down_card; disk = w.disk; memory = zero_memory } in
      record { recovery = subst (RecoversWhole w.disk) (sym cut_done) (recovers_whole v (cut_unbegun w.disk f.size f.fit)); gives = e }

-- ---- one command of the span
-- where it leads: the same shape and the same target
record Onward (l : Ledger) (v : World) : Type 0 where
  ledger : Ledger
  stands : Stands ledger v
  shape : ledger.shape ≡ l.shape
  target_same : (b : ℕ) → target ledger b ≡ target l b

onward_here : {l : Ledger} {w : World} → Stands l w → Onward l w
onward_here {l} s = record { ledger = l; stands = s; shape = refl; target_same = λ b. refl }

checkpoint_onward : {l : Ledger} {w : World} (c : ℕ) → Stands l w → refusal (refusals_of (CHECKPOINT c) l) ≡ 0 → Onward l (done_by in_sequence (CHECKPOINT c) w).world
unfolding refusals_of done_by checkpoint_refusals retire_refusals
checkpoint_onward {l} c (stands_up u) h =
    let x = may_checkpoint u c h in
    let m = x.0 in
    let s = (u.up.well_formed.ranks c m.in_range_lem).first m.some_committed in
    record {
      ledger = with_book l (checkpoint_book c l.book);
      stands = stands_up (checkpoint_at u c m.in_range_lem m.some_committed m.valid m.none_shared x.1);
      shape = refl;
      target_same = checkpoint_target c l s.1;
    }
checkpoint_onward c (stands_down d) h = clash (ap is_down d.ledger) (refusal_passed _ 22 _ (omega arith) (refusal_passed _ 20 _ (omega arith) h).1).0

retire_onward : {l : Ledger} {w : World} (c : ℕ) → Stands l w → refusal (refusals_of (RETIRE c) l) ≡ 0 → Onward l (done_by in_sequence (RETIRE c) w).world
unfolding refusals_of done_by retire_refusals
retire_onward {l} c (stands_up u) h =
    let x = may_retire u c h in
    let m = x.0 in
    let s = (u.up.well_formed.ranks c m.in_range_lem).first m.some_committed in
    record {
      ledger = with_book l (retire_book c l.book);
      stands = stands_up (retire_at u c m.in_range_lem m.some_committed m.valid m.none_shared x.1);
      shape = refl;
      target_same = retire_target c l s.1;
    }
retire_onward c (stands_down d) h = clash (ap is_down d.ledger) (refusal_passed _ 22 _ (omega arith) (refusal_passed _ 20 _ (omega arith) h).1).0

step_onward : {l : Ledger} {w : World} (k : Command) → in_span k ≡ true → Stands l w → refusal (refusals_of k l) ≡ 0 → Onward l (done_by in_sequence k w).world
step_onward (FORMAT c b j) h s z = absurd (true≢false (sym h))
step_onward (WRITE task c b o v) h s z = absurd (true≢false (sym h))
step_onward (CLOSE c) h s z = absurd (true≢false (sym h))
step_onward (STORE c) h s z = absurd (true≢false (sym h))
step_onward (CHECKPOINT c) h s z = checkpoint_onward c s z
step_onward CUT h s z = absurd (true≢false (sym h))
step_onward RECOVER h s z = absurd (true≢false (sym h))
step_onward (RETIRE c) h s z = retire_onward c s z

-- done or refused
command_onward : {l : Ledger} {w : World} (k : Command) → in_span k ≡ true → Stands l w → Onward l (step k w).world
command_onward {l} {w} k h s = by_answer (step k w).answer refl
  where
    same : (step k w).answer ≡ refusal (refusals_of k l)
    same = step_answer in_sequence k w ∙ related_simulation.answers l w (to_related s) k

    by_answer : (n : ℕ) → (step k w).answer ≡ n → Onward l (step k w).world
    by_answer zero e = subst (λ (o : Outcome World). Onward l o.world) (sym (step_done in_sequence k w e).1) (step_onward k h s (sym same ∙ e))
    by_answer (suc n) e = subst (λ (o : Outcome World). Onward l o.world) (sym (step_refused in_sequence k w (omega (arith, e))).2) (onward_here s)

-- ---- the whole span
kept_area_same : {l : Ledger} {v : World} (a : Onward l v) → kept_area a.ledger ≡ kept_area l
unfolding kept_area target
kept_area_same {l} a =
    ap (λ (x : Shape). flat_map (target a.ledger) (below x.blocks)) a.shape
    ∙ flat_map_below (target a.ledger) (target l) l.shape.blocks (λ b i. a.target_same b)

span_onward : {l : Ledger} (ks : List Command) (w : World) → all in_span ks ≡ true → Stands l w → Onward l (world_by ks w)
unfolding world_by all
span_onward [] w h s = onward_here s
span_onward {l} (k ∷ ks) w h s =
    let a = command_onward k (and_left (in_span k) _ h) s in
    let r = span_onward {l = a.ledger} ks (step k w).world (and_right (in_span k) _ h) a.stands in
    record { ledger = r.ledger; stands = r.stands; shape = r.shape ∙ a.shape; target_same = λ b. r.target_same b ∙ a.target_same b }

span_keeps : (l : Ledger) (w : World) → Related l w → SpanKeeps w
span_keeps l w r =
    record {
      gives =
          λ h ks a.
          let s = of_related r h in
          let o = span_onward ks w a s in
          let f = fits o.stands in
          cut_gives f (recovered_area w.disk)
          (f.area ∙ kept_area_same o ∙ sym (fits s).area);
    }

-- of every card whose commands go as the model's
module _ (f : TapeStep World) (go : CardKeeps Related f) where
  pub spans_of : Spans f
  spans_of t b s h =
      kept_along Related f go (λ (l : Ledger) (w : World) (ps : List (Point World)). SpansKeep w ps) span_keeps (λ l w p ps here g rest. (span_keeps l w here, rest))
      t b (starts s h) (run_runs f t (start_world s))

  area_given : (l : Ledger) (w : World) → Related l w → AreaGiven l w
  area_given l w r h = (fits (of_related r h)).area

  pub recovers_kept_of : RecoversKept in_sequence f
  recovers_kept_of t b s h =
      kept_along Related f go AreasGiven area_given (λ l w p ps here g rest. (area_given l w here, rest)) t b (starts s h) (run_runs f t (start_world s))

-- For paper 02's (g): a cut brings back the same home area before, within and after any span of CHECKPOINTs and RETIREs.
pub spans : Spans step_at
spans = spans_of step_at (point_keeps Related related_simulation)

-- At every point of a run, card up or down, recovery of the disk gives the area of the ledger's kept writes.
pub recovers_kept : RecoversKept in_sequence step_at
recovers_kept = recovers_kept_of step_at (point_keeps Related related_simulation)
