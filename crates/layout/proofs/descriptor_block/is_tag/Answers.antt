-- `layout::is_tag` meets its contract: both conditions of `is_tag`.
use borrow.Author.Rules.{rules}
use Rattle.model.specs.Layout.{is_tag}
use Rattle.layout.proofs.Tests.{tests}
use Rattle.layout.proofs.descriptor_block.is_tag.Goals as goal

pub returns-then-tag_block-s : goal.returns-then-tag_block-s
unfolding is_tag
returns-then-tag_block-s c = search (rules, tests)

pub returns-else-tag_block-s : goal.returns-else-tag_block-s
unfolding is_tag
returns-else-tag_block-s c = search (rules, tests)
