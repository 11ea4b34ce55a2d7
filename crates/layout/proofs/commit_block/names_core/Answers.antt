-- `layout::names_core` meets its contract: by the layout.
use borrow.Author.Rules.{rules}
use Rattle.layout.proofs.Counting.{core_listed, core_numbered}
use Rattle.layout.proofs.commit_block.names_core.Goals as goal

pub returns-in-Lists : goal.returns-in-Lists
returns-in-Lists c = search (rules, core_listed)

pub returns-in-Numbers : goal.returns-in-Numbers
returns-in-Numbers c = search (rules, core_numbered)
