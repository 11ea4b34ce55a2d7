-- `images::image_at` meets its contract: block and flag as `image_at` has them.
use borrow.Author.Rules.{rules}
use Rattle.images.proofs.Images.{image_is}
use Rattle.images.proofs.newest.image_at.Goals as goal

pub returns : goal.returns
returns c = (search (rules, image_is), search rules)
