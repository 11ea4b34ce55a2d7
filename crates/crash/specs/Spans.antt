-- Paper 02, (g): what a cut brings back, at every point of a run. It is the same before, within and after a span of commands that store
-- home or retire, and it is the area of the ledger's kept writes.
use Rattle.std.specs.Prelude.{◌≡◌, Bool, true, false}
use mathlib.Core.List.{List, [], ◌∷◌, flat_map}
use Rattle.model.specs.Lists.{below, all}
use Rattle.model.specs.Bytes.{Bytes}
use Rattle.model.specs.Card.{is_blank}
use Rattle.model.specs.Command.{World}
use Rattle.model.specs.Tape.{CHECKPOINT, CLOSE, CUT, Command, FORMAT, RECOVER, RETIRE, STORE, WRITE, TapeStep, Point}
use Rattle.model.specs.Recovery.{cut, recovered_area}
use Rattle.model.specs.RecoveryClaims.{RecoversWhole}
use Rattle.model.specs.Valid.{Order}
use Rattle.model.specs.Step.{world_by}
use Rattle.crash.specs.Ledger.{Ledger, kept_image}
use Rattle.crash.specs.Claims.{OnRuns, Start, StartFits, start_world, start_ledger, entered_point}

-- ---- paper 02, (g): 'With no other command in that span, a cut between the two brings back the same home area as one before both.'
-- the commands of such a span
abbrev pub in_span : Command → Bool
in_span (FORMAT c b j) = false
in_span (WRITE task c b o v) = false
in_span (CLOSE c) = false
in_span (STORE c) = false
in_span (CHECKPOINT c) = true
in_span CUT = false
in_span RECOVER = false
in_span (RETIRE c) = true

-- a cut here, and as many RECOVERs as its disk takes, give this home area
pub record CutGives (area : Bytes) (w : World) : Type 0 where
  pub recovery : RecoversWhole w.disk (cut w).world
  pub gives : recovered_area w.disk ≡ area

-- in a world that is not blank: so it is now, and after any of these commands, of whatever cores, done or refused
pub record SpanKeeps (w : World) : Type 0 where
  pub gives : is_blank w.card.phase ≡ false → (ks : List Command) → all in_span ks ≡ true → CutGives (recovered_area w.disk) (world_by ks w)

-- before every command of a run and after the last. The span, the cut and its RECOVERs are done by the model's own commands, whatever card
-- made the run
abbrev pub SpansKeep : World → List (Point World) → Type 0
SpansKeep w [] = SpanKeeps w
SpansKeep w (p ∷ ps) = SpanKeeps w × SpansKeep p.outcome.world ps

abbrev pub Spans : TapeStep World → Type 0
Spans f = OnRuns StartFits start_world f (λ (s : Start) (ps : List (Point World)). SpansKeep (start_world s) ps)

-- ---- what a cut brings back, in the ledger's words
-- the area of its kept writes
unfoldable pub kept_area : Ledger → Bytes
kept_area l = flat_map (kept_image l) (below l.shape.blocks)

-- card up or down
abbrev pub AreaGiven : Ledger → World → Type 0
AreaGiven l w = is_blank w.card.phase ≡ false → recovered_area w.disk ≡ kept_area l

-- before every command of a run and after the last
abbrev pub AreasGiven : Ledger → World → List (Point World) → Type 0
AreasGiven l w [] = AreaGiven l w
AreasGiven l w (p ∷ ps) = AreaGiven l w × AreasGiven (entered_point p l) p.outcome.world ps

abbrev pub RecoversKept : Order → TapeStep World → Type 0
RecoversKept o f = OnRuns StartFits start_world f (λ (s : Start) (ps : List (Point World)). AreasGiven (start_ledger o s) (start_world s) ps)
