-- The card's state: empty values, what is read of it, and parts of it replaced.
-- Reading past the end of an array gives the empty value; replacing there changes nothing.
use Rattle.std.specs.Prelude.{ℕ, ◌+◌, ◌-◌, max, List, map, Bool, true, false, cond, ◌&&◌, take, length, get_or, set, replicate, eqb, Option, Some, None}
use Rattle.std.specs.Option.{is_some, unwrap_or}
use Rattle.model.specs.Limits.{max_cores, max_blocks, max_taken}
use Rattle.model.specs.Shape.{clamped}
use Rattle.model.specs.declared.Phase.{Phase}
use Rattle.model.specs.declared.Phase.TheVariants.{Blank, Up, Down}
use Rattle.model.specs.declared.Shape.{Shape}
use Rattle.model.specs.declared.Tail.{Tail}
use Rattle.model.specs.declared.Name.{Name}
use Rattle.model.specs.declared.Transaction.{Transaction}
use Rattle.model.specs.declared.Core.{Core}
use Rattle.model.specs.declared.Card.{Card}

-- 'The card is blank, up or down.'
abbrev pub is_blank : Phase → Bool
is_blank Blank = true
is_blank Up = false
is_blank Down = false

abbrev pub is_up : Phase → Bool
is_up Blank = false
is_up Up = true
is_up Down = false

abbrev pub is_down : Phase → Bool
is_down Blank = false
is_down Up = false
is_down Down = true

-- ---- names and tails
abbrev pub new_tail : ℕ → ℕ → Tail
new_tail k p = record { number = k; position = p }

-- 'A transaction is a core and a number'
abbrev pub new_name : ℕ → ℕ → Name
new_name c k = record { core = c; number = k }

unfoldable pub same_name : Name → Name → Bool
same_name a b = eqb a.core b.core && eqb a.number b.number

-- ---- transactions
abbrev pub no_transaction : Transaction
no_transaction = record { live = false; stamp = 0; count = 0; blocks = replicate max_taken 0; highest = replicate max_cores 0 }

-- one just opened: no block, no name
abbrev pub opened : Transaction
opened = record { live = true; stamp = 0; count = 0; blocks = replicate max_taken 0; highest = replicate max_cores 0 }

-- the blocks that it took, in the order taken
unfoldable pub taken : Transaction → List ℕ
taken t = take t.count t.blocks

abbrev pub with_block : Transaction → ℕ → Transaction
with_block t b = record { live = t.live; stamp = t.stamp; count = t.count + 1; blocks = set t.blocks t.count b; highest = t.highest }

-- paper 02, (d): 'the highest number named for each core'
unfoldable pub highest_of : Transaction → ℕ → ℕ
highest_of t c = get_or t.highest c 0

-- it names n: the number of n's core is raised to n's, where that is higher
unfoldable pub with_name : Transaction → Name → Transaction
with_name t n =
    record {
      live = t.live;
      stamp = t.stamp;
      count = t.count;
      blocks = t.blocks;
      highest = set t.highest n.core (max (highest_of t n.core) n.number);
    }

abbrev pub stamped : Transaction → ℕ → Transaction
stamped t s = record { live = t.live; stamp = s; count = t.count; blocks = t.blocks; highest = t.highest }

-- ---- cores
abbrev pub fresh_core : ℕ → Core
fresh_core k = record { next = k; used = 0; stored = 0; homed = 0; running = no_transaction; closed = no_transaction }

abbrev pub with_running : Core → Transaction → Core
with_running k t = record { next = k.next; used = k.used; stored = k.stored; homed = k.homed; running = t; closed = k.closed }

-- the blocks of a record: descriptor, data, commit
unfoldable pub record_size : Transaction → ℕ
record_size t = length (taken t) + 2

-- ---- the card
-- a block's holder: the name of the transaction that holds it, if one does
abbrev pub Holder : Type 0
Holder = Option Name

abbrev pub no_holder : Holder
no_holder = None

abbrev pub new_holder : Name → Holder
new_holder n = Some n

abbrev pub is_held : Holder → Bool
is_held h = is_some h

-- the holder's name, all zero for none
abbrev pub holder_name : Holder → Name
holder_name h = unwrap_or h (new_name 0 0)

-- a card with empty journals
unfoldable pub fresh_card : Phase → Shape → List Tail → Card
fresh_card p s ts =
    record {
      phase = p;
      shape = s;
      closes = 0;
      recovered = 0;
      tails = ts;
      cores = map (λ (t : Tail). fresh_core t.number) ts;
      holders = replicate max_blocks no_holder;
    }

unfoldable pub empty_card : Phase → Card
empty_card p = fresh_card p (record { cores = 0; blocks = 0; journal = 0 }) (replicate max_cores (new_tail 0 0))

unfoldable pub blank_card : Card
blank_card = empty_card Blank

-- A card that is down keeps only that, and how far recovery is: all else is read from the master.
unfoldable pub down_card : Card
down_card = empty_card Down

unfoldable pub shape_of : Card → Shape
shape_of x = clamped x.shape

unfoldable pub tail_of : Card → ℕ → Tail
tail_of x c = get_or x.tails c (new_tail 0 0)

unfoldable pub core_of : Card → ℕ → Core
core_of x c = get_or x.cores c (fresh_core 0)

unfoldable pub holder_of : Card → ℕ → Holder
holder_of x b = get_or x.holders b no_holder

-- The card's own count of core c's committed unretired transactions: those from the tail to the next number, without
-- the one that is closed and still uncommitted.
unfoldable pub committed_count : Card → ℕ → ℕ
committed_count x c = let k = core_of x c in k.next - (tail_of x c).number - cond k.closed.live 1 0

abbrev pub with_arrays : Card → List Tail → List Core → List Holder → Card
with_arrays x ts ks hs =
    record {
      phase = x.phase;
      shape = x.shape;
      closes = x.closes;
      recovered = x.recovered;
      tails = ts;
      cores = ks;
      holders = hs;
    }

abbrev pub with_cores : Card → List Core → Card
with_cores x ks = with_arrays x x.tails ks x.holders

abbrev pub with_core : Card → ℕ → Core → Card
with_core x c k = with_cores x (set x.cores c k)

abbrev pub with_holder : Card → ℕ → Holder → Card
with_holder x b h = with_arrays x x.tails x.cores (set x.holders b h)
