-- `recovery::home::home_count` meets its contract: by the phase.
use Rattle.recovery.proofs.MasterLaws.{blank_count, up_count, down_count}
use borrow.Author.Rules.{rules}
use Rattle.recovery.proofs.home.home_count.Goals as goal

pub returns-in-Blank : goal.returns-in-Blank
returns-in-Blank c = search (rules, blank_count)

pub returns-in-Up : goal.returns-in-Up
returns-in-Up c = search (rules, up_count)

pub returns-in-Down : goal.returns-in-Down
returns-in-Down c = search (rules, down_count)
