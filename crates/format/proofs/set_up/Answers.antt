-- `format::set_up` meets its contract: both slices zeroed, the master in block 0, the card up.
use Rattle.format.proofs.FormatLaws.{format_left}
use borrow.Author.Rules.{rules}
use Rattle.format.proofs.set_up.Goals as goal

pub returns : goal.returns
returns c =
    let d = c.fill.ensures.after (λ y h. h) in
    let m = c.fill-2.ensures.after (λ y h. h) in
    (search (rules, format_left), search rules)
