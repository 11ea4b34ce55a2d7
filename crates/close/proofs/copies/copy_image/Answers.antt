-- `close::copies::copy_image` meets its contract: the copy lies within memory, and the part lent is replaced.
use Rattle.model.specs.Commit.{copy_block}
use Rattle.close.proofs.CloseLaws.{copied_image}
use Rattle.std.proofs.Common.{rules}
use Rattle.close.proofs.copies.copy_image.Goals as goal

pub overflow_mul-start : goal.overflow_mul-start
unfolding copy_block
overflow_mul-start c = search rules

pub overflow_add-end : goal.overflow_add-end
unfolding copy_block
overflow_add-end c = search rules

pub slice_bounds-copy_from_slice-end : goal.slice_bounds-copy_from_slice-end
unfolding copy_block
slice_bounds-copy_from_slice-end c = search rules

pub returns : goal.returns
returns c = search (rules, copied_image)
