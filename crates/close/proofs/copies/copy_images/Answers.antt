-- `close::copies::copy_images` meets its contract. Invariant: the copies still to be made from here lead to the same memory.
use Rattle.std.proofs.Common.{refl, rules}
use Rattle.close.proofs.CloseLaws.{copied_more, copied_all}
use Rattle.close.proofs.copies.copy_images.Goals as goal

pub loop-i-init : goal.loop-i-init
loop-i-init c = (search rules, search rules, search rules, refl)

pub loop-i-preserved : goal.loop-i-preserved
loop-i-preserved c = (search rules, search rules, search rules, search (rules, copied_more))

pub returns : goal.returns
returns c = search (rules, copied_all)
