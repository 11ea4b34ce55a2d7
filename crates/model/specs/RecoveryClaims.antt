-- For paper 02's (g): recovery is a function of the disk, of any disk with a fit master. What the RECOVER commands of a card that is down
-- do there, and what stays so until it is up, whatever stands on a tape. Not beyond: `model/proofs/Foreign.antt` has a disk from elsewhere.
use Rattle.std.specs.Prelude.{ℕ, zero, suc, ◌≤◌, ◌≡◌, ◌⊎◌, true, List, [], ◌∷◌, length}
use Rattle.model.specs.Limits.{disk_size, memory_size}
use Rattle.model.specs.Bytes.{Bytes, block_at}
use Rattle.model.specs.Card.{is_up, is_down}
use Rattle.model.specs.Layout.{is_master}
use Rattle.model.specs.Valid.{in_sequence}
use Rattle.model.specs.Command.{World}
use Rattle.model.specs.Tape.{TapeStep, Point, run}
use Rattle.model.specs.Recovery.{shape_on, recover, held_on, recovered_area, home_area}

-- a card that is down, memory of its length, over a disk of its length with a fit master
pub record DownOver (w : World) : Type 0 where
  pub down : is_down w.card.phase ≡ true
  pub memory : length w.memory ≡ memory_size
  pub size : length w.disk ≡ disk_size
  pub fit : is_master (block_at w.disk 0) ≡ true

-- whose recovery has not begun: after a CUT, or begun down
pub record Unbegun (w : World) : Type 0 where
  pub over : DownOver w
  pub none_passed : w.card.recovered ≡ 0

-- ---- the RECOVER commands alone
-- so many of them one after another, each where the last one, done or refused, left the world
unfoldable pub recovers_from : ℕ → World → World
recovers_from zero w = w
recovers_from (suc n) w = (recover in_sequence (recovers_from n w)).world

-- what they do on a card that is down over disk d: with h blocks held there the first h + 1
pub record RecoversWhole (d : Bytes) (w : World) : Type 0 where
  pub done : (n : ℕ) → n ≤ length (held_on d) → (recover in_sequence (recovers_from n w)).answer ≡ 0
  -- before each of them it is down, and what recovery gives is the same
  pub down : (n : ℕ) → n ≤ length (held_on d) → is_down (recovers_from n w).card.phase ≡ true
  pub same : (n : ℕ) → n ≤ length (held_on d) → recovered_area (recovers_from n w).disk ≡ recovered_area d
  -- then it is up, with that home area
  pub up : is_up (recovers_from (suc (length (held_on d))) w).card.phase ≡ true
  pub home : home_area (shape_on d).blocks (recovers_from (suc (length (held_on d))) w) ≡ recovered_area d

abbrev pub AnyDiskRecovers : Type 0
AnyDiskRecovers = (w : World) → Unbegun w → RecoversWhole w.disk w

-- ---- whatever stands on a tape, cuts too
-- still down over such a disk, of which recovery gives what it gave of disk d
pub record StillDown (d : Bytes) (w : World) : Type 0 where
  pub over : DownOver w
  pub same : recovered_area w.disk ≡ recovered_area d

-- up, with that home area
pub record UpWith (d : Bytes) (w : World) : Type 0 where
  pub up : is_up w.card.phase ≡ true
  pub home : home_area (shape_on d).blocks w ≡ recovered_area d

-- before every command of a run, until one brings the card up, and at the end of a run in which none does
abbrev pub SameUntilUp : Bytes → World → List (Point World) → Type 0
SameUntilUp d w [] = StillDown d w
SameUntilUp d w (p ∷ ps) = StillDown d w × (UpWith d p.outcome.world ⊎ SameUntilUp d p.outcome.world ps)

abbrev pub AnyTapeRecovers : TapeStep World → Type 0
AnyTapeRecovers f = (tape : Bytes) (w : World) → Unbegun w → SameUntilUp w.disk w (run f tape w)
