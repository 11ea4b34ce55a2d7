-- `journal_page::line::lay_line` meets its contract: the buffer is filled column by column.
use Prim.Native.Nat.{ℕ, ◌+◌}
use Rattle.model.specs.JournalPage.{byte_at}
use Rattle.layout.proofs.Loops.{Filled}
use Rattle.journal_page.specs.Fields.{fields_in}
use Rattle.journal_page.proofs.line.lay_line.Given as goal

abbrev pub invariant-loop-i : goal.invariant-loop-i
invariant-loop-i l = Filled (λ (k : ℕ). byte_at (fields_in l.fields) (k + 1)) 65 l.buffer l.i
