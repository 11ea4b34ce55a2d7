-- `commit::core_state::count_store` meets its contract: one more store, or committed.
use Rattle.commit.proofs.StateLaws.{store_counted, store_committed, counted_frame, committed_frame}
use Rattle.std.proofs.Common.{rules}
use Rattle.commit.proofs.core_state.count_store.Goals as goal

pub returns-then-stored-count : goal.returns-then-stored-count
returns-then-stored-count c = (search (rules, store_counted), search (rules, counted_frame))

pub clear-requires : goal.clear-requires
clear-requires c = search rules

pub returns : goal.returns
returns c = (search (rules, store_committed), search (rules, committed_frame))
