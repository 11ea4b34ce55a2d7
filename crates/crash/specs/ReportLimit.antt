-- Paper 02, (h): the report task 'may never take a block where the running transaction already has three', at every point of a run, in the
-- ledger's words. That the card's transactions have the ledger's blocks, and that 36 is answered only so, is `Demands`.
use Rattle.std.specs.Prelude.{ℕ, ◌≤◌, ◌≡◌, ◌⊎◌, List, [], ◌∷◌, length}
use Rattle.model.specs.Limits.{max_report_taken}
use Rattle.model.specs.Bytes.{Bytes}
use Rattle.model.specs.Command.{World}
use Rattle.model.specs.Tape.{WRITE, report_task, whole, TapeStep, Point}
use Rattle.model.specs.Valid.{Order}
use Rattle.crash.specs.Book.{Book}
use Rattle.crash.specs.Ledger.{Ledger, writer_blocks}
use Rattle.crash.specs.Claims.{OnRuns, Start, StartFits, start_world, start_ledger, entered_point}

-- core c's transaction in the book k has in the book after the blocks that it had, or at most three
abbrev pub FewTaken : ℕ → Book → Book → Type 0
FewTaken c k after = (writer_blocks c k after ≡ writer_blocks c k k) ⊎ (length (writer_blocks c k after) ≤ max_report_taken)

-- a WRITE of the report task that is carried out
abbrev pub WriteLimited : Ledger → Point World → Type 0
WriteLimited l p =
    (c b o : ℕ) (v : Bytes) → p.read ≡ whole (WRITE report_task c b o v) → p.outcome.answer ≡ 0 → FewTaken c l.book (entered_point p l).book

-- at every point of a run
abbrev pub WritesLimited : Ledger → List (Point World) → Type 0
WritesLimited l [] = Unit {0}
WritesLimited l (p ∷ ps) = WriteLimited l p × WritesLimited (entered_point p l) ps

-- on every run from a start
abbrev pub ReportLimit : Order → TapeStep World → Type 0
ReportLimit o f = OnRuns StartFits start_world f (λ (s : Start) (ps : List (Point World)). WritesLimited (start_ledger o s) ps)
