-- WRITE: 'four bytes replaced in the block's memory image', and the four rules of section 'Transactions'.
use Rattle.std.specs.Prelude.{ℕ, ◌+◌, ◌*◌, List, [], ◌∷◌, Bool, true, false, cond, not, ◌&&◌, ltb, leb, eqb}
use Rattle.model.specs.Limits.{block_size, max_taken, max_number, max_offset}
use Rattle.model.specs.Bytes.{Bytes, block_at, store, replaced}
use Rattle.model.specs.Shape.{home_block}
use Rattle.model.specs.Card.{new_name, same_name, opened, with_block, with_name, with_running, record_size, shape_of, core_of, holder_of, new_holder, with_core, with_holder, is_held, holder_name}
use Rattle.model.specs.Command.{World, Outcome, unstored, unless, not_up, no_core, no_block}
use Rattle.model.specs.declared.Name.{Name}
use Rattle.model.specs.declared.Transaction.{Transaction}
use Rattle.model.specs.declared.Core.{Core}
use Rattle.model.specs.declared.Card.{Card}
use Rattle.model.specs.declared.Rule.{Rule}
use Rattle.model.specs.declared.Rule.TheVariants.{Free, Own, Running, Closed}

-- 'WRITE opens one if the core has none': the transaction that writes, and its name
unfoldable pub writer : Card → ℕ → Transaction
writer x c = cond (core_of x c).running.live (core_of x c).running opened

unfoldable pub writer_name : Card → ℕ → Name
writer_name x c = new_name c (core_of x c).next

-- the transaction of this name is running
unfoldable pub is_running_in : Card → Name → Bool
is_running_in x n = (core_of x n.core).running.live && eqb (core_of x n.core).next n.number

-- 'When T writes a block': which rule it meets
unfoldable pub rule_for : Card → ℕ → ℕ → Rule
rule_for x c b =
    let h = holder_of x b in
    cond (not (is_held h)) Free
    (cond (same_name (holder_name h) (writer_name x c)) Own
    (cond (is_running_in x (holder_name h)) Running Closed))

-- T takes the block: 'no holder', 'a closed U holds it'
abbrev pub takes_block : Rule → Bool
takes_block Free = true
takes_block Own = false
takes_block Running = false
takes_block Closed = true

-- T names U: 'another running U holds it', 'a closed U holds it'
abbrev pub names_holder : Rule → Bool
names_holder Free = false
names_holder Own = false
names_holder Running = true
names_holder Closed = true

-- U names T: 'another running U holds it'
abbrev pub is_named_back : Rule → Bool
is_named_back Free = false
is_named_back Own = false
is_named_back Running = true
is_named_back Closed = false

-- 'loaded from home when taken without a holder'
abbrev pub loads_image : Rule → Bool
loads_image Free = true
loads_image Own = false
loads_image Running = false
loads_image Closed = false

-- T as the WRITE leaves it
unfoldable pub writer_after : Card → ℕ → ℕ → Transaction
writer_after x c b =
    let r = rule_for x c b in
    let t = cond (names_holder r) (with_name (writer x c) (holder_name (holder_of x b))) (writer x c) in
    cond (takes_block r) (with_block t b) t

-- '26 journal full: blocks of the records of closed unretired transactions, stored yet or not,
-- plus 2 and the blocks of the running one, would pass J'
unfoldable pub closed_blocks : Core → ℕ
closed_blocks k = k.used + cond k.closed.live (record_size k.closed) 0

unfoldable pub journal_full : Card → ℕ → ℕ → Bool
journal_full x c b = ltb (shape_of x).journal (closed_blocks (core_of x c) + record_size (writer_after x c b))

-- '25 a ninth block'; paper 02, (h): 'take a block where the running transaction already has three': by its rule T would take the block,
-- and has the limit's number of blocks or more
abbrev pub takes_past : ℕ → Rule → Transaction → Bool
takes_past limit r t = takes_block r && leb limit t.count

-- paper 02, (d): 'Refusal 24 can no longer occur'; (h): '36, the report task's block limit, comes directly after 25', with the task's
-- limit. Of command 2 the condition of 36 is that of 25, so command 2 never answers 36
unfoldable pub write_conditions : ℕ → ℕ → ℕ → ℕ → World → List (Bool × ℕ)
write_conditions limit c b o w =
    let x = w.card in
    not_up w
    ((no_core w c, 5)
    ∷ (no_block w b, 6)
    ∷ (ltb max_offset o, 7)
    ∷ (takes_past max_taken (rule_for x c b) (writer x c), 25)
    ∷ (takes_past limit (rule_for x c b) (writer x c), 36)
    ∷ (journal_full x c b, 26)
    ∷ (not (core_of x c).running.live && ltb max_number (core_of x c).next, 27)
    ∷ [])

-- the card afterwards: what U names, T, the block's holder
unfoldable pub written_card : Card → ℕ → ℕ → Card
written_card x c b =
    let r = rule_for x c b in
    let u = (holder_name (holder_of x b)).core in
    let x₁ = cond (is_named_back r) (with_core x u (with_running (core_of x u) (with_name (core_of x u).running (writer_name x c)))) x in
    let x₂ = with_core x₁ c (with_running (core_of x₁ c) (writer_after x c b)) in
    cond (takes_block r) (with_holder x₂ b (new_holder (writer_name x c))) x₂

-- memory afterwards: v at the offset of the block's image
unfoldable pub written_memory : World → ℕ → ℕ → ℕ → Bytes → Bytes
written_memory w c b o v =
    let m = cond (loads_image (rule_for w.card c b)) (store w.memory b (block_at w.disk (home_block b))) w.memory in
    replaced (block_size * b + o) 4 m v

unfoldable pub written : ℕ → ℕ → ℕ → Bytes → World → Outcome World
written c b o v w = unstored w (written_card w.card c b) (written_memory w c b o v)

unfoldable pub write : ℕ → ℕ → ℕ → ℕ → Bytes → World → Outcome World
write limit c b o v w = unless (write_conditions limit c b o w) w (written c b o v w)
