-- The card's state in 423 cells of eight bytes that the caller lends: what each cell means (`card_in`), and the cells of a card and its
-- count of stores (`cells_of`).
-- A field narrower than its cell is the cell modulo its width, so every value of a cell has a meaning.
use Rattle.std.specs.Prelude.{ℕ, ◌+◌, ◌-◌, ◌*◌, ◌/◌, ◌%◌, ◌≡◌, List, [], ◌∷◌, map, cond, not, eqb, ltb, get_or}
use Rattle.model.specs.Lists.{below}
use Rattle.model.specs.Bytes.{Bytes}
use Rattle.model.specs.Command.{World}
use Rattle.model.specs.Card.{new_tail, new_name, no_holder, new_holder, highest_of, tail_of, core_of, holder_of, is_held, holder_name}
use Rattle.model.specs.declared.Phase.{Phase}
use Rattle.model.specs.declared.Phase.TheVariants.{Blank, Up, Down}
use Rattle.model.specs.declared.Tail.{Tail}
use Rattle.model.specs.declared.Name.{Name}
use Rattle.model.specs.declared.Transaction.{Transaction}
use Rattle.model.specs.declared.Core.{Core}
use Rattle.model.specs.Card.{Holder}
use Rattle.model.specs.declared.Card.{Card}

-- ---- where each part stands
-- The header: phase, the shape's three numbers, closes, how far recovery is, the count of stores.
abbrev pub phase_place : ℕ
phase_place = 0

abbrev pub cores_place : ℕ
cores_place = 1

abbrev pub blocks_place : ℕ
blocks_place = 2

abbrev pub journal_place : ℕ
journal_place = 3

abbrev pub closes_place : ℕ
closes_place = 4

abbrev pub recovered_place : ℕ
recovered_place = 5

abbrev pub stores_place : ℕ
stores_place = 6

-- Eight tails, 64 holders, eight cores.
abbrev pub first_tail : ℕ
first_tail = 7

abbrev pub first_holder : ℕ
first_holder = 23

abbrev pub first_core : ℕ
first_core = 87

-- A tail has two cells: its number, then its position.
abbrev pub tail_place : ℕ → ℕ
tail_place c = first_tail + 2 * c

abbrev pub position_place : ℕ → ℕ
position_place a = a + 1

abbrev pub holder_place : ℕ → ℕ
holder_place b = first_holder + b

-- A core at a has its next number there, then used, stored, homed, its running transaction and its closed one.
abbrev pub core_size : ℕ
core_size = 42

abbrev pub core_place : ℕ → ℕ
core_place c = first_core + core_size * c

abbrev pub used_place : ℕ → ℕ
used_place a = a + 1

abbrev pub stored_place : ℕ → ℕ
stored_place a = a + 2

abbrev pub homed_place : ℕ → ℕ
homed_place a = a + 3

abbrev pub running_place : ℕ → ℕ
running_place c = core_place c + 4

abbrev pub closed_place : ℕ → ℕ
closed_place c = core_place c + 23

-- A transaction at a: whether there is one, then its stamp, the count of its blocks, the blocks, the highest number of each core.
abbrev pub transaction_size : ℕ
transaction_size = 19

abbrev pub stamp_place : ℕ → ℕ
stamp_place a = a + 1

abbrev pub count_place : ℕ → ℕ
count_place a = a + 2

abbrev pub block_place : ℕ → ℕ → ℕ
block_place a i = a + 3 + i

abbrev pub highest_place : ℕ → ℕ → ℕ
highest_place a c = a + 11 + c

-- ---- what the cells mean
-- a field of one byte, and of four
abbrev pub byte_in : List ℕ → ℕ → ℕ
byte_in w i = get_or w i 0 % 256

abbrev pub number_in : List ℕ → ℕ → ℕ
number_in w i = get_or w i 0 % 4294967296

-- 0 blank, 1 up, any other down
unfoldable pub phase_in : ℕ → Phase
phase_in n = cond (eqb n 0) Blank (cond (eqb n 1) Up Down)

-- a name is 8 times its number, and its core
unfoldable pub name_in : ℕ → Name
name_in n = new_name (n % 8) (n / 8 % 4294967296)

-- a holder is one above its name, 0 for none
unfoldable pub holder_in : ℕ → Holder
holder_in n = cond (eqb n 0) no_holder (new_holder (name_in (n - 1)))

unfoldable pub tail_from : List ℕ → ℕ → Tail
tail_from w a = new_tail (number_in w a) (byte_in w (position_place a))

unfoldable pub transaction_in : List ℕ → ℕ → Transaction
transaction_in w a =
    record {
      live = not (eqb (get_or w a 0) 0);
      stamp = get_or w (stamp_place a) 0;
      count = byte_in w (count_place a);
      blocks = map (λ (i : ℕ). byte_in w (block_place a i)) (below 8);
      highest = map (λ (c : ℕ). number_in w (highest_place a c)) (below 8);
    }

unfoldable pub core_in : List ℕ → ℕ → Core
core_in w a =
    record {
      next = number_in w a;
      used = byte_in w (used_place a);
      stored = byte_in w (stored_place a);
      homed = byte_in w (homed_place a);
      running = transaction_in w (a + 4);
      closed = transaction_in w (a + 23);
    }

unfoldable pub card_in : List ℕ → Card
card_in w =
    record {
      phase = phase_in (get_or w phase_place 0);
      shape = record { cores = byte_in w cores_place; blocks = byte_in w blocks_place; journal = byte_in w journal_place };
      closes = get_or w closes_place 0;
      recovered = byte_in w recovered_place;
      tails = map (λ (c : ℕ). tail_from w (tail_place c)) (below 8);
      cores = map (λ (c : ℕ). core_in w (core_place c)) (below 8);
      holders = map (λ (b : ℕ). holder_in (get_or w (holder_place b) 0)) (below 64);
    }

-- a card over its two slices, and the card in its cells over them
abbrev pub world : Card → Bytes → Bytes → World
world x d m = record { card = x; disk = d; memory = m }

abbrev pub world_in : List ℕ → Bytes → Bytes → World
world_in w d m = world (card_in w) d m

-- the count of stores, which is no part of the card
abbrev pub stores_in : List ℕ → ℕ
stores_in w = get_or w stores_place 0

-- ---- the cells of a card
unfoldable pub phase_cell : Phase → ℕ
phase_cell Blank = 0
phase_cell Up = 1
phase_cell Down = 2

unfoldable pub name_cell : Name → ℕ
name_cell n = 8 * n.number + n.core

unfoldable pub holder_cell : Holder → ℕ
holder_cell h = cond (is_held h) (name_cell (holder_name h) + 1) 0

-- cell i of a header, of a transaction, of a core
unfoldable pub header_cell : Card → ℕ → ℕ → ℕ
header_cell x n i =
    get_or (phase_cell x.phase ∷ x.shape.cores ∷ x.shape.blocks ∷ x.shape.journal ∷ x.closes ∷ x.recovered ∷ n ∷ []) i 0

unfoldable pub transaction_cell : Transaction → ℕ → ℕ
transaction_cell t i =
    cond (ltb i 3) (get_or (cond t.live 1 0 ∷ t.stamp ∷ t.count ∷ []) i 0)
    (cond (ltb i 11) (get_or t.blocks (i - 3) 0) (highest_of t (i - 11)))

unfoldable pub core_cell : Core → ℕ → ℕ
core_cell k i =
    cond (ltb i 4) (get_or (k.next ∷ k.used ∷ k.stored ∷ k.homed ∷ []) i 0)
    (cond (ltb i 23) (transaction_cell k.running (i - 4)) (transaction_cell k.closed (i - 23)))

unfoldable pub tail_cell : Tail → ℕ → ℕ
tail_cell t i = cond (eqb i 0) t.number t.position

-- cell i of a card with n stores
unfoldable pub cell_of : Card → ℕ → ℕ → ℕ
cell_of x n i =
    cond (ltb i first_tail) (header_cell x n i)
    (cond (ltb i first_holder) (tail_cell (tail_of x ((i - first_tail) / 2)) ((i - first_tail) % 2))
    (cond (ltb i first_core) (holder_cell (holder_of x (i - first_holder)))
    (core_cell (core_of x ((i - first_core) / core_size)) ((i - first_core) % core_size))))

unfoldable pub cells_of : Card → ℕ → List ℕ
cells_of x n = map (cell_of x n) (below 423)

-- cells that are those of their card and count: nothing stands above a field's width
unfoldable pub Exact : List ℕ → Type 0
Exact w = w ≡ cells_of (card_in w) (stores_in w)
