-- A whole tape over the cells: its stores, where it stopped, the demands. What reading leaves in a lent buffer, and where a block's
-- bytes stand.
use Rattle.std.specs.Prelude.{ℕ, ◌≡◌, List, [], ◌∷◌, Bool, true, cond, not, eqb}
use Rattle.model.specs.Lists.{all}
use Rattle.model.specs.Bytes.{Bytes}
use Rattle.model.specs.Command.{World}
use Rattle.model.specs.Reading.{read_block, block_reader}
use Rattle.model.specs.Tape.{Point, command_byte, next_offset, run, world_after}
use Rattle.model.specs.Valid.{in_sequence}
use Rattle.model.specs.Step.{step_at}
use Rattle.crash.specs.Claims.{AreaKept, KeptBegins, LedgerKept, LargestKept, ReadingsKept, Start, Stated, start_ledger, start_service, start_world}
use Rattle.crash.specs.Spans.{SpansKeep}
use Rattle.crash.specs.ReportLimit.{WritesLimited}
use Rattle.crash.specs.Book.{Book}
use Rattle.cells.specs.Cells.{stores_in, Exact, world_in}
use Rattle.reading.specs.Part.{part_of}
use Rattle.command.specs.Counting.{counted, Performs}
use Rattle.firmware.specs.declared.session.Reply.{Reply}
use Rattle.firmware.specs.declared.session.Stop.{Stop}
use Rattle.firmware.specs.declared.session.Part.{Part}

-- the stores after the points of a run, with n before
unfoldable pub stores_after : ℕ → List (Point World) → ℕ
stores_after n [] = n
stores_after n (p ∷ ps) = stores_after p.stores ps

-- every command of a run was refused
unfoldable pub all_refused : List (Point World) → Bool
all_refused ps = all (λ (p : Point World). not (eqb p.outcome.answer 0)) ps

-- where a run stopped: its last command's offset, number and byte
abbrev pub new_stop : ℕ → ℕ → ℕ → Stop
new_stop at n k = record { at = at; number = n; byte = k }

unfoldable pub stop_after : Stop → List (Point World) → Stop
stop_after s [] = s
stop_after s (p ∷ ps) = stop_after (new_stop p.offset p.outcome.answer p.byte) ps

-- a buffer after reading block b with the number n: its bytes, or for a refusal as it was
unfoldable pub read_into : ℕ → ℕ → World → Bytes → Bytes
read_into n b w out = cond (eqb n 0) (read_block b w) out

-- where the bytes of block b stand, in fields of a foreign caller's widths
unfoldable pub part_in : ℕ → World → Part
part_in b w = let p = part_of b w in record { number = p.number; slice = p.slice; from = p.from; length = p.length }

-- The demands, of the run of a tape from a world that is one of the starts: a blank card over slices of their lengths, or a card
-- that is down over a disk as FORMAT leaves it, or left it before request (d). Kept is the largest such set of every book, and at every
-- point a beginning of each core's run. A cut brings back the same home area before, within and after a span of CHECKPOINTs and RETIREs.
-- And a WRITE of the report task leaves the blocks of its transaction as they were, or at most three.
pub record DemandsMet (t : Bytes) (w : World) : Type 0 where
  pub claim : (s : Start) → Stated s → w ≡ start_world s → AreaKept (start_service in_sequence s) (run step_at t w)
  pub demands : (s : Start) → Stated s → w ≡ start_world s → LedgerKept (start_ledger in_sequence s) w (run step_at t w)
  pub readings : (s : Start) → Stated s → w ≡ start_world s → ReadingsKept block_reader (start_ledger in_sequence s) w (run step_at t w)
  pub largest : (k : Book) → LargestKept k
  pub begins : (s : Start) → KeptBegins (start_service in_sequence s) (run step_at t w)
  pub spans : (s : Start) → Stated s → w ≡ start_world s → SpansKeep w (run step_at t w)
  pub limited : (s : Start) → Stated s → w ≡ start_world s → WritesLimited (start_ledger in_sequence s) (run step_at t w)

-- The command at an offset of a tape t, over the cells v, the disk d and memory m, left u, e and k: what it performs, its byte, and
-- the offset of the next one.
pub record RunsCommand (t : Bytes) (at : ℕ) (v : List ℕ) (d m : Bytes) (u : List ℕ) (e k : Bytes) (r : Reply) : Type 0 where
  pub performs : Performs (step_at t at (world_in v d m)) v u e k r.number
  pub byte : r.byte ≡ command_byte t at
  pub next : r.next ≡ next_offset t at

-- A tape t run over the cells v, the disk d and memory m left u, e and k: the world after the run, its stores counted, and
-- exactly where none were counted before; cells that are those of their card and count stay so; where every command was
-- refused, every cell is as it was; where it stopped; and the run meets the demands.
pub record RunsTape (t : Bytes) (v : List ℕ) (d m : Bytes) (u : List ℕ) (e k : Bytes) (r : Stop) : Type 0 where
  pub world : world_in u e k ≡ world_after (world_in v d m) (run step_at t (world_in v d m))
  pub stores : stores_in u ≡ counted (stores_in v) (stores_after 0 (run step_at t (world_in v d m)))
  pub from_none : stores_in v ≡ 0 → stores_in u ≡ stores_after 0 (run step_at t (world_in v d m))
  pub exact : Exact v → Exact u
  pub refused : all_refused (run step_at t (world_in v d m)) ≡ true → u ≡ v
  pub stopped : r ≡ stop_after (new_stop 0 0 0) (run step_at t (world_in v d m))
  pub demands : DemandsMet t (world_in v d m)
