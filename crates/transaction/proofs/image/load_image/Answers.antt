-- `transaction::image::load_image` meets its contract.
use Rattle.model.specs.Bytes.{replaced}
use Rattle.rules.proofs.RuleLaws.{cond_not}
use Rattle.transaction.specs.Writing.{loaded_by}
use Rattle.transaction.proofs.CommandLaws.{image_loaded}
use borrow.Author.Rules.{rules}
use Rattle.transaction.proofs.image.load_image.Goals as goal

pub returns-then-not-loads_image : goal.returns-then-not-loads_image
unfolding loaded_by
returns-then-not-loads_image c = search (rules, cond_not)

pub returns : goal.returns
unfolding replaced
returns c = search (rules, image_loaded)
