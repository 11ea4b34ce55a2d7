-- `commit::store` meets its contract: refused, or the next block stored at its place in the journal.
use Rattle.layout.proofs.Wholes.{whole_read}
use Rattle.std.proofs.Common.{◌<◌, arith, rules, ap, ◌∙◌}
use Rattle.model.specs.Card.{core_of}
use Rattle.model.specs.Commit.{next_stored}
use Rattle.cells.specs.Cells.{card_in}
use Rattle.commit.proofs.StoreLaws.{store_refused, store_memory, store_core, store_low, store_end, store_done}
use Rattle.commit.proofs.store.Goals as goal

pub returns-in_err-check_store : goal.returns-in_err-check_store
returns-in_err-check_store c = search (rules, store_refused)

pub next_position-requires : goal.next_position-requires
next_position-requires c = search (rules, store_core, c.in_ok-check_store.ensures)

pub overflow_mul-start : goal.overflow_mul-start
overflow_mul-start c = let low : c.journal_block-start.result < 257 = search (rules, store_low, c.in_ok-check_store.ensures) in omega (arith, low)

pub overflow_add-end : goal.overflow_add-end
overflow_add-end c = let low : c.journal_block-start.result < 257 = search (rules, store_low, c.in_ok-check_store.ensures) in omega (arith, low)

pub slice_bounds-store_block-end : goal.slice_bounds-store_block-end
slice_bounds-store_block-end c = search (rules, store_end, c.in_ok-check_store.ensures)

pub store_block-requires : goal.store_block-requires
store_block-requires c = (search rules, search (rules, store_core, c.in_ok-check_store.ensures))

pub unwrap-requires : goal.unwrap-requires
unwrap-requires c = c.as_array.ensures.variant.1 (search (rules, store_memory, c.in_ok-check_store.ensures))

pub count_store-requires : goal.count_store-requires
count_store-requires c = search (rules, store_core, c.in_ok-check_store.ensures)

pub returns : goal.returns
returns c =
    let same = whole_read _ _ _ _ _ c.as_array.ensures.cases c.unwrap.ensures in
    let k = core_of (card_in c.args.w.now) c.args.core in
    let made = c.store_block.ensures ∙ ap (next_stored c.args.core k) same in
    search (rules, store_done, c.in_ok-check_store.ensures)
