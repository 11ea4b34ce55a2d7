-- CHECKPOINT: 'takes the core's oldest committed transaction, stores its images home in the order taken'. RETIRE has since paper 02's
-- (g) the rest of that sentence: 'then the master with the tail moved past it, which retires it'.
use Rattle.std.specs.Prelude.{ℕ, ◌+◌, ◌-◌, ◌%◌, List, [], ◌∷◌, map, Bool, cond, not, ◌&&◌, ◌||◌, length, get_or, set, ltb, eqb}
use Rattle.model.specs.Lists.{below, any}
use Rattle.model.specs.Shape.{home_block}
use Rattle.model.specs.Card.{new_tail, same_name, no_holder, taken, shape_of, tail_of, core_of, committed_count, with_arrays, with_core, is_held, holder_name}
use Rattle.model.specs.Layout.{master_block}
use Rattle.model.specs.Journal.{journal, journals, name_of, blocks_of, image_of}
use Rattle.model.specs.Valid.{Order, is_in, valid_set}
use Rattle.model.specs.Command.{World, Outcome, BlockStore, storing_block, unless, not_up, no_core}
use Rattle.model.specs.declared.Shape.{Shape}
use Rattle.model.specs.declared.Tail.{Tail}
use Rattle.model.specs.declared.Name.{Name}
use Rattle.model.specs.declared.Transaction.{Transaction}
use Rattle.model.specs.declared.Core.{Core}
use Rattle.model.specs.Card.{Holder}
use Rattle.model.specs.declared.Card.{Card}
use Rattle.model.specs.declared.CommitLayout.TheVariants.{Numbers}
use Rattle.model.specs.declared.Committed.{Committed}

-- the committed unretired transactions of a card that is up: of each journal, as many as the card counts. It has come from FORMAT or from
-- a recovery that was finished, so its commits have numbers; the master is not looked at
unfoldable pub committed_now : World → List Committed
committed_now w = journals Numbers (shape_of w.card) w.disk (tail_of w.card) (committed_count w.card)

unfoldable pub valid_now : Order → World → List Committed
valid_now o w = valid_set o Numbers (shape_of w.card) w.disk (tail_of w.card) (committed_now w)

-- the core's committed unretired transactions; the oldest comes first
unfoldable pub committed_of : World → ℕ → List Committed
committed_of w c = journal Numbers (shape_of w.card) w.disk c (tail_of w.card c) (committed_count w.card c)

-- the first of a list, the empty one where there is none
unfoldable pub oldest : List Committed → Committed
oldest [] = record { core = 0; number = 0; position = 0; count = 0; stamp = 0 }
oldest (e ∷ es) = e

-- two transactions share a block
unfoldable pub share : List ℕ → List ℕ → Bool
share bs cs = any (λ (b : ℕ). any (eqb b) cs) bs

-- '33 CHECKPOINT, a lower-stamped unretired transaction shares a block (both took it)': a committed one, or a closed one
unfoldable pub shares_lower : World → Committed → Bool
shares_lower w e =
    let s = shape_of w.card in
    let bs = blocks_of s w.disk e in
    let lower_closed : Transaction → Bool = λ t. t.live && ltb t.stamp e.stamp && share bs (taken t) in
    any (λ (f : Committed). ltb f.stamp e.stamp && share bs (blocks_of s w.disk f)) (committed_now w)
    || any (λ (c : ℕ). lower_closed (core_of w.card c).closed) (below s.cores)

-- paper 02, (g): 'RETIRE meets 20, 22 and 5 as CHECKPOINT does, then tests 31, 32, 33'; the rest is a command's own. What is asked of the
-- oldest transaction ..
unfoldable pub found_conditions : Order → Committed → World → List (Bool × ℕ) → List (Bool × ℕ)
found_conditions o e w rest = (not (is_in (valid_now o w) (name_of e)), 32) ∷ (shares_lower w e, 33) ∷ rest

-- .. of a core that the card has ..
unfoldable pub committed_conditions : Order → ℕ → World → List (Bool × ℕ) → List (Bool × ℕ)
committed_conditions o c w rest =
    let es = committed_of w c in
    (eqb (length es) 0, 31) ∷ found_conditions o (oldest es) w rest

-- .. and of any core
abbrev pub oldest_conditions : Order → ℕ → World → List (Bool × ℕ) → List (Bool × ℕ)
oldest_conditions o c w rest = not_up w ((no_core w c, 5) ∷ committed_conditions o c w rest)

-- images of its transaction are left to be stored home
abbrev pub images_left : ℕ → World → Bool
images_left c w = ltb (core_of w.card c).homed (oldest (committed_of w c)).count

-- 'CHECKPOINT tests 31, 32, 33, then 35, all home stores done.'
unfoldable pub checkpoint_conditions : Order → ℕ → World → List (Bool × ℕ)
checkpoint_conditions o c w = oldest_conditions o c w ((not (images_left c w), 35) ∷ [])

-- RETIRE 'then 34, home stores outstanding'
unfoldable pub retire_conditions : Order → ℕ → World → List (Bool × ℕ)
retire_conditions o c w = oldest_conditions o c w ((images_left c w, 34) ∷ [])

-- the core after one more home store
abbrev pub homed_core : Core → Core
homed_core k = record { next = k.next; used = k.used; stored = k.stored; homed = k.homed + 1; running = k.running; closed = k.closed }

-- a home store: 'A block's home image comes from the journal, never from later memory.'
abbrev pub home_store : ℕ → Committed → World → BlockStore
home_store c e w =
    let s = shape_of w.card in
    let i = (core_of w.card c).homed in
    record { place = home_block (get_or (blocks_of s w.disk e) i 0); bytes = image_of s w.disk e i }

unfoldable pub stored_home : ℕ → Committed → World → Outcome World
stored_home c e w = storing_block w (with_core w.card c (homed_core (core_of w.card c))) (home_store c e w)

-- 'until that one is retired': its blocks have no holder any more
abbrev pub freed : Name → Holder → Holder
freed n h = cond (is_held h && same_name (holder_name h) n) no_holder h

unfoldable pub released : Name → List Holder → List Holder
released n hs = map (freed n) hs

-- 'the tail moved past it'
abbrev pub moved_tail : Shape → Committed → Tail
moved_tail s e = new_tail (e.number + 1) ((e.position + (e.count + 2)) % s.journal)

-- the core without it
abbrev pub retired_core : Core → Committed → Core
retired_core k e =
    record { next = k.next; used = k.used - (e.count + 2); stored = k.stored; homed = 0; running = k.running; closed = k.closed }

-- the card after the master store, 'which retires it'
unfoldable pub retired_card : ℕ → Committed → Card → Card
retired_card c e x =
    with_arrays x
    (set x.tails c (moved_tail (shape_of x) e))
    (set x.cores c (retired_core (core_of x c) e))
    (released (name_of e) x.holders)

-- the master store, for the card as it then is
abbrev pub master_store : Card → BlockStore
master_store x = record { place = 0; bytes = master_block Numbers (shape_of x) (tail_of x) }

unfoldable pub stored_master : ℕ → Committed → World → Outcome World
stored_master c e w = let x = retired_card c e w.card in storing_block w x (master_store x)

-- paper 02, (g): 'CHECKPOINT (5) now only does the home stores.'
unfoldable pub checkpointed : ℕ → World → Outcome World
checkpointed c w = stored_home c (oldest (committed_of w c)) w

unfoldable pub checkpoint : Order → ℕ → World → Outcome World
checkpoint o c w = unless (checkpoint_conditions o c w) w (checkpointed c w)

-- 'The new command RETIRE (byte 8, core 1 byte) does the master store'
unfoldable pub retired_oldest : ℕ → World → Outcome World
retired_oldest c w = stored_master c (oldest (committed_of w c)) w

unfoldable pub retire : Order → ℕ → World → Outcome World
retire o c w = unless (retire_conditions o c w) w (retired_oldest c w)
