-- `master_block::has_master_fields` meets its contract: each return is one condition of `has_master_fields`; a shape that fits is the one in the block.
use borrow.Author.Rules.{rules}
use Rattle.model.specs.Layout.{has_master_fields}
use Rattle.layout.proofs.Tests.{tests}
use Rattle.master_block.proofs.Readers.{master_no, master_few, master_yes}
use Rattle.master_block.proofs.has_master_fields.Goals as goal

pub returns-then-get_word-ne-MARK : goal.returns-then-get_word-ne-MARK
unfolding has_master_fields
returns-then-get_word-ne-MARK c = search (rules, tests)

pub returns-in_default : goal.returns-in_default
unfolding has_master_fields
returns-in_default c = search (rules, master_no)

pub are_tails-requires : goal.are_tails-requires
unfolding has_master_fields
are_tails-requires c = search (rules, master_few)

pub returns : goal.returns
unfolding has_master_fields
returns c = search (rules, master_yes)
