-- `lines::homes::first_bytes` meets its contract: a part of a part of the disk.
use Rattle.lines.proofs.PageLaws.{first_part}
use borrow.Author.Rules.{rules}
use Rattle.lines.proofs.homes.first_bytes.Goals as goal

pub returns : goal.returns
returns c = search (rules, first_part)
