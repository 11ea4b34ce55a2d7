-- CLOSE and STORE: a transaction is frozen, then stored block by block until it is committed.
use Rattle.std.specs.Prelude.{ℕ, suc, ◌+◌, ◌*◌, ◌-◌, ◌%◌, ◌^◌, List, [], ◌∷◌, map, Bool, cond, not, length, get_or, set, leb, eqb}
use Rattle.model.specs.Limits.{max_blocks, max_taken}
use Rattle.model.specs.Lists.{below}
use Rattle.model.specs.Bytes.{Bytes, block_at, store}
use Rattle.model.specs.Shape.{journal_block}
use Rattle.model.specs.Card.{no_transaction, taken, highest_of, stamped, record_size, shape_of, tail_of, core_of, with_core}
use Rattle.model.specs.Layout.{Tag, new_tag, descriptor_block, commit_block, flag_of, escaped}
use Rattle.model.specs.Command.{World, Outcome, BlockStore, unstored, storing_block, unless, not_up, no_core}
use Rattle.model.specs.declared.Core.{Core}
use Rattle.model.specs.declared.Card.{Card}

-- ---- CLOSE
-- 'the 64 block images .., then the closed copies, eight to a core'; 'the first of its core's copies onward'
unfoldable pub copy_block : ℕ → ℕ → ℕ
copy_block c i = max_blocks + max_taken * c + i

-- 'CLOSE copies the transaction's block images, in the order taken': those of the blocks given, to copy i onward
-- (a card that no run made may list a block that has no image: its number counts modulo 64)
unfoldable pub copied : ℕ → ℕ → List ℕ → Bytes → Bytes
copied c i [] m = m
copied c i (b ∷ bs) m = copied c (suc i) bs (store m (copy_block c i) (block_at m (b % max_blocks)))

unfoldable pub close_conditions : ℕ → World → List (Bool × ℕ)
close_conditions c w =
    let k = core_of w.card c in
    not_up w ((no_core w c, 5) ∷ (not k.running.live, 28) ∷ (k.closed.live, 29) ∷ [])

-- a core with its running transaction closed under this stamp; counts wrap at their width on a card that no run made
abbrev pub closed_core : Core → ℕ → Core
closed_core k stamp =
    record { next = (k.next + 1) % 2 ^ 32; used = k.used; stored = 0; homed = k.homed; running = no_transaction; closed = stamped k.running stamp }

-- 'gives it a stamp: the count of closes since the card came up'
unfoldable pub closed_card : Card → ℕ → Card
closed_card x c =
    let stamp = (x.closes + 1) % 2 ^ 64 in
    record {
      phase = x.phase;
      shape = x.shape;
      closes = stamp;
      recovered = x.recovered;
      tails = x.tails;
      cores = set x.cores c (closed_core (core_of x c) stamp);
      holders = x.holders;
    }

unfoldable pub closed : ℕ → World → Outcome World
closed c w = unstored w (closed_card w.card c) (copied c 0 (taken (core_of w.card c).running) w.memory)

unfoldable pub close : ℕ → World → Outcome World
close c w = unless (close_conditions c w) w (closed c w)

-- ---- STORE
-- the blocks with their flags, as the closed copies give them
unfoldable pub copy_tags : ℕ → List ℕ → Bytes → List Tag
copy_tags c bs m = map (λ (i : ℕ). new_tag (get_or bs i 0) (flag_of (block_at m (copy_block c i)))) (below (length bs))

-- the number of the closed transaction
abbrev pub closed_number : Core → ℕ
closed_number k = k.next - 1

-- 'Stores go: descriptor, data in the order taken, commit.': what is stored next
unfoldable pub next_stored : ℕ → Core → Bytes → Bytes
next_stored c k m =
    let t = k.closed in
    cond (eqb k.stored 0) (descriptor_block (closed_number k) (copy_tags c (taken t) m))
    (cond (leb k.stored (length (taken t))) (escaped (block_at m (copy_block c (k.stored - 1))))
    (commit_block (closed_number k) t.stamp (highest_of t)))

-- 'Records follow one another from the tail': the position of what is stored next
unfoldable pub next_position : Card → ℕ → ℕ
next_position x c = (tail_of x c).position + (core_of x c).used + (core_of x c).stored

-- the store of it
abbrev pub record_store : ℕ → World → BlockStore
record_store c w =
    let x = w.card in
    record { place = journal_block (shape_of x) c (next_position x c); bytes = next_stored c (core_of x c) w.memory }

-- 'With the commit stored it is committed.'
unfoldable pub core_stored : Core → Core
core_stored k =
    cond (leb k.stored (length (taken k.closed)))
    (record { next = k.next; used = k.used; stored = k.stored + 1; homed = k.homed; running = k.running; closed = k.closed })
    (record { next = k.next; used = (k.used + record_size k.closed) % 256; stored = 0; homed = k.homed; running = k.running; closed = no_transaction })

unfoldable pub store_conditions : ℕ → World → List (Bool × ℕ)
store_conditions c w = not_up w ((no_core w c, 5) ∷ (not (core_of w.card c).closed.live, 30) ∷ [])

unfoldable pub stored : ℕ → World → Outcome World
stored c w = storing_block w (with_core w.card c (core_stored (core_of w.card c))) (record_store c w)

unfoldable pub store_next : ℕ → World → Outcome World
store_next c w = unless (store_conditions c w) w (stored c w)
