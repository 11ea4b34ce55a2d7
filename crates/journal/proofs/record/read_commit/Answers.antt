-- `journal::read_commit` meets its contract: its stamp where it is a commit.
use Rattle.journal.proofs.OneRecord.{commit_is, commit_none}
use borrow.Author.Rules.{rules}
use Rattle.journal.proofs.record.read_commit.Goals as goal

pub returns-then-is_commit : goal.returns-then-is_commit
returns-then-is_commit c = search (rules, commit_is)

pub returns : goal.returns
returns c = search (rules, commit_none)
