-- What the contracts over the cells say of a change: which values fit a cell, what stays, and parts of a card replaced.
use Rattle.std.specs.Prelude.{ℕ, ◌+◌, ◌-◌, ◌%◌, ◌≤◌, ◌<◌, ◌≡◌, List, Bool, true, cond, eqb, ltb, leb, length, get_or, set}
use Rattle.model.specs.Card.{opened, with_arrays}
use Rattle.model.specs.declared.Phase.TheVariants.{Up}
use Rattle.model.specs.declared.Shape.{Shape}
use Rattle.model.specs.declared.Tail.{Tail}
use Rattle.model.specs.declared.Transaction.{Transaction}
use Rattle.cells.specs.declared.cores.CoreNumbers.{CoreNumbers}
use Rattle.model.specs.declared.Core.{Core}
use Rattle.model.specs.declared.Card.{Card}
use Rattle.cells.specs.Cells.{first_tail, first_holder, first_core, core_size, transaction_size, transaction_in, card_in}

-- ---- cells that are those of their card, cell by cell
-- whether a value has no bit above its field's width: in a header, a transaction, a core
unfoldable pub fits_header : ℕ → ℕ → Bool
fits_header i x =
    cond (eqb i 0) (ltb x 3)
    (cond (eqb i 4) true
    (cond (eqb i 6) true (ltb x 256)))

unfoldable pub fits_transaction : ℕ → ℕ → Bool
fits_transaction i x =
    cond (eqb i 0) (ltb x 2)
    (cond (eqb i 1) true
    (cond (ltb i 11) (ltb x 256) (ltb x 4294967296)))

unfoldable pub fits_core : ℕ → ℕ → Bool
fits_core i x =
    cond (eqb i 0) (ltb x 4294967296)
    (cond (ltb i 4) (ltb x 256) (fits_transaction ((i - 4) % transaction_size) x))

-- in cell i
unfoldable pub fits_at : ℕ → ℕ → Bool
fits_at i x =
    cond (ltb i first_tail) (fits_header i x)
    (cond (ltb i first_holder) (cond (eqb ((i - first_tail) % 2) 0) (ltb x 4294967296) (ltb x 256))
    (cond (ltb i first_core) (leb x 34359738368) (fits_core ((i - first_core) % core_size) x)))

unfoldable pub AllFit : List ℕ → Type 0
AllFit w = (i : ℕ) → i < 423 → fits_at i (get_or w i 0) ≡ true

-- the place of a transaction: that of a core's running one, or of its closed one
abbrev pub IsPlace : ℕ → Type 0
IsPlace a = (first_core ≤ a) × (a + transaction_size ≤ 423) × ((a - first_core) % core_size % transaction_size ≡ 4)

-- ---- a change of some cells
-- w is v but for the n cells from a on, and what is put there fits
pub record Frame (v w : List ℕ) (a n : ℕ) : Type 0 where
  pub size : length w ≡ length v
  pub low : (i : ℕ) → i < a → get_or w i 0 ≡ get_or v i 0
  pub high : (i : ℕ) → a + n ≤ i → get_or w i 0 ≡ get_or v i 0
  pub fits : AllFit v → AllFit w

-- the card is changed by f, within the n cells from a on; and a transaction, in its place
abbrev pub Changed : (Card → Card) → List ℕ → List ℕ → ℕ → ℕ → Type 0
Changed f v w a n = (card_in w ≡ f (card_in v)) × Frame v w a n

abbrev pub ChangedAt : ℕ → (Transaction → Transaction) → List ℕ → List ℕ → Type 0
ChangedAt a f v w = (transaction_in w a ≡ f (transaction_in v a)) × Frame v w a transaction_size

-- the transaction, or one that opens
unfoldable pub opened_or : Transaction → Transaction
opened_or t = cond t.live t opened

-- a core's numbers, a core with these numbers, and with this closed transaction
abbrev pub numbers_of : Core → CoreNumbers
numbers_of k = record { next = k.next; used = k.used; stored = k.stored; homed = k.homed }

abbrev pub with_numbers : Core → ℕ → ℕ → ℕ → ℕ → Core
with_numbers k next used stored homed =
    record { next = next; used = used; stored = stored; homed = homed; running = k.running; closed = k.closed }

abbrev pub with_closed : Core → Transaction → Core
with_closed k t = record { next = k.next; used = k.used; stored = k.stored; homed = k.homed; running = k.running; closed = t }

-- a card with this count of closes
abbrev pub with_closes : Card → ℕ → Card
with_closes x n =
    record { phase = x.phase; shape = x.shape; closes = n; recovered = x.recovered; tails = x.tails; cores = x.cores; holders = x.holders }

-- the card with core c's tail replaced
abbrev pub with_tail : Card → ℕ → Tail → Card
with_tail x c t = with_arrays x (set x.tails c t) x.cores x.holders

-- the card up, with this shape
abbrev pub up_with : Card → Shape → Card
up_with x s =
    record { phase = Up; shape = s; closes = x.closes; recovered = x.recovered; tails = x.tails; cores = x.cores; holders = x.holders }
