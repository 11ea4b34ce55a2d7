-- `layout::has_bad_field` meets its contract: each return is one condition of `has_bad_field`.
use borrow.Author.Rules.{rules}
use Rattle.layout.proofs.Readers.{bad_count, bad_tags, bad_twice}
use Rattle.layout.proofs.Narrow.{tags_below}
use Rattle.layout.proofs.descriptor_block.has_bad_field.Goals as goal

pub are_new-requires : goal.are_new-requires
are_new-requires c = search (rules, tags_below)

pub returns-then-n-gt-MAX_TAKEN : goal.returns-then-n-gt-MAX_TAKEN
returns-then-n-gt-MAX_TAKEN c = search (rules, bad_count)

pub returns-then-not-are_tags : goal.returns-then-not-are_tags
returns-then-not-are_tags c = search (rules, bad_tags)

pub returns-else-not-are_tags : goal.returns-else-not-are_tags
returns-else-not-are_tags c = search (rules, bad_twice)
