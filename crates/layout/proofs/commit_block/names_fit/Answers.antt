-- `layout::names_fit` meets its contract: by the layout.
use borrow.Author.Rules.{rules}
use Rattle.layout.proofs.Readers.{names_listed, names_numbered}
use Rattle.layout.proofs.commit_block.names_fit.Goals as goal

pub returns-in-Lists : goal.returns-in-Lists
returns-in-Lists c = search (rules, names_listed)

pub returns-in-Numbers : goal.returns-in-Numbers
returns-in-Numbers c = search (rules, names_numbered)
