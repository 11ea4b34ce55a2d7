-- Cells and cards: cells fit exactly if they are those of their card, and a card within its widths is the card of its cells.
use Rattle.model.proofs.Base.{ℕ, zero, suc, ◌+◌, ◌-◌, ◌*◌, ◌/◌, ◌%◌, ◌≤◌, ◌<◌, arith, ◌≡◌, refl, sym, ap, ap₂, subst, ◌∙◌, Bool}
use Rattle.model.proofs.Base.{true, false, cond, not, List, map, length, get_or, set, replicate, length-replicate}
use Rattle.model.proofs.Base.{get_or-replicate, ext_get_or, eqb, ltb, leb, eq-eqb, ne_eqb, eqb-true, eqb-false, lt-ltb, le-ltb}
use Rattle.model.proofs.Base.{ltb-true, ltb-false, le-leb, leb-true, below}
use Rattle.model.specs.Card.{new_tail, fresh_core, no_holder, new_holder, highest_of, tail_of, core_of, holder_of, fresh_card, empty_card, blank_card, down_card}
use Rattle.model.specs.declared.Phase.{Phase}
use Rattle.model.specs.declared.Phase.TheVariants.{Blank, Up, Down}
use Rattle.model.specs.declared.Tail.{Tail}
use Rattle.model.specs.declared.Name.{Name}
use Rattle.model.specs.declared.Transaction.{Transaction}
use Rattle.model.specs.declared.Core.{Core}
use Rattle.std.specs.Prelude.{Some, None}
use Rattle.model.specs.Card.{Holder}
use Rattle.model.specs.declared.Card.{Card}
use Rattle.model.proofs.Lists.{cases, bool_ext, get_or_map_below}
use Rattle.cells.proofs.FitsLaws.{in_place, fits_zero, fits_phase, fits_in_number, fits_in_position, fits_in_holder, fits_in_core, fits_set}
use Rattle.cells.proofs.ReadLaws.{length_tabled, name_in_put, highest_read, block_read, holder_read, tail_at, core_of_card_in}
use Rattle.cells.proofs.TransactionLaws.{transaction_cong}
use Rattle.cells.proofs.CellLaws.{tail_cong, core_cong, card_cong, shape_cong, holder_cell_lem}
use Rattle.cells.specs.Cells.{phase_in, name_in, holder_in, tail_from, transaction_in, core_in, card_in, stores_in, core_place, tail_place, holder_place, phase_cell, name_cell, holder_cell, header_cell, tail_cell, transaction_cell, core_cell, cell_of, cells_of, Exact}
use Rattle.cells.specs.Sized.{SizedName, SizedTransaction, SizedCore, SizedTail, SizedHolder, SizedCard}
use Rattle.cells.specs.Changes.{fits_header, fits_transaction, fits_core, fits_at, AllFit}

ruleset tests = (ltb-true, leb-true, eqb-true, lt-ltb, le-leb, eq-eqb)

-- ---- one field: its value from its cell, and a cell that fits is that of its value
phase_back : (p : Phase) → phase_in (phase_cell p) ≡ p
unfolding phase_in phase_cell
phase_back Blank = refl
phase_back Up = refl
phase_back Down = refl

phase_fits : (x : ℕ) → ltb x 3 ≡ eqb x (phase_cell (phase_in x))
unfolding phase_in phase_cell
phase_fits zero = refl
phase_fits (suc zero) = refl
phase_fits (suc (suc zero)) = refl
phase_fits (suc (suc (suc x))) =
    let y : ℕ = suc (suc (suc x)) in rw (ne_eqb y 0 (omega arith), ne_eqb y 1 (omega arith), ne_eqb y 2 (omega arith), le-ltb y 3 (omega arith))

flag_back : (b : Bool) → not (eqb (cond b 1 0) 0) ≡ b
flag_back true = refl
flag_back false = refl

flag_fits : (x : ℕ) → ltb x 2 ≡ eqb x (cond (not (eqb x 0)) 1 0)
flag_fits zero = refl
flag_fits (suc zero) = refl
flag_fits (suc (suc x)) = let y : ℕ = suc (suc x) in rw (ne_eqb y 0 (omega arith), ne_eqb y 1 (omega arith), le-ltb y 2 (omega arith))

same_fits : (x : ℕ) → true ≡ eqb x x
same_fits x = sym (eq-eqb x x refl)

byte_fits : (x : ℕ) → ltb x 256 ≡ eqb x (x % 256)
byte_fits x = bool_ext (λ e. omega (arith, tests)) (λ e. omega (arith, tests))

number_fits : (x : ℕ) → ltb x 4294967296 ≡ eqb x (x % 4294967296)
number_fits x = bool_ext (λ e. omega (arith, tests)) (λ e. omega (arith, tests))

name_fits : (x : ℕ) → ltb x 34359738368 ≡ eqb x (name_cell (name_in x))
unfolding name_cell name_in
name_fits x = bool_ext (λ e. let q : x / 8 < 4294967296 = omega (arith, tests) in omega (arith, tests)) (λ e. omega (arith, tests))

name_back : (n : Name) → SizedName n → name_in (name_cell n) ≡ n
unfolding name_cell
name_back n s = name_in_put n.core n.number s.core s.number

name_sized : (x : ℕ) → SizedName (name_in x)
unfolding name_in
name_sized x = omega arith

holder_fits : (x : ℕ) → leb x 34359738368 ≡ eqb x (holder_cell (holder_in x))
unfolding holder_cell holder_in
holder_fits zero = refl
holder_fits (suc x) =
    let z : suc x - 1 ≡ x = omega arith in
    rw (ne_eqb (suc x) 0 (omega arith), z)
    (bool_ext (λ e. omega (arith, tests, sym (name_fits x) ∙ lt-ltb x 34359738368 (omega (arith, tests)))) (λ e. omega (arith, tests, name_fits x ∙ eq-eqb x _ (omega (arith, tests)))))

holder_back : (h : Holder) → SizedHolder h → holder_in (holder_cell h) ≡ h
unfolding holder_in holder_cell
holder_back (Some n) s = holder_cell_lem (name_cell n) n (name_back n s)
holder_back None s = refl

holder_sized : (t : Bool) (n : Name) → SizedName n → SizedHolder (cond t no_holder (new_holder n))
holder_sized true n s = omega arith
holder_sized false n s = s

-- a list given by its index
table_is : {A : Type 0} (f : ℕ → A) (n : ℕ) (d : A) (xs : List A) → length xs ≡ n → ((i : ℕ) → i < n → f i ≡ get_or xs i d) → map f (below n) ≡ xs
table_is f n d xs l e =
    ext_get_or d _ _ (length_tabled f n ∙ sym l) (λ i h. let k : i < n = rw (length_tabled f n) at h in get_or_map_below f n i d k ∙ e i k)

-- ---- every index below n, by its parts: one cell and the rest, or m cells and the rest
module _ (P : ℕ → Type 0) (n : ℕ) where
  one : (k : ℕ) → P k → ((j : ℕ) → k < j → j < n → P j) → (j : ℕ) → k ≤ j → j < n → P j
  one k p f j l h = cases (eqb j k) (λ t. subst P (sym (eqb-true j k t)) p) (λ t. f j (omega (arith, eqb-false j k t)) h)

  part : (a m : ℕ) → ((i : ℕ) → i < m → P (a + i)) → ((j : ℕ) → a + m ≤ j → j < n → P j) → (j : ℕ) → a ≤ j → j < n → P j
  part a m p f j l h =
      cases (ltb j (a + m))
      (λ t. let e : a + (j - a) ≡ j = omega arith in subst P e (p (j - a) (omega (arith, tests))))
      (λ t. f j (ltb-false j (a + m) t) h)

-- a transaction: three cells, eight blocks, eight numbers
each_in_transaction : (P : ℕ → Type 0) → P 0 → P 1 → P 2 → ((i : ℕ) → i < 8 → P (3 + i)) → ((i : ℕ) → i < 8 → P (11 + i)) → (j : ℕ) → j < 19 → P j
each_in_transaction P p q r f g j h =
    one P 19 0 p (one P 19 1 q (one P 19 2 r (part P 19 3 8 f (part P 19 11 8 g (λ j l h. absurd (omega arith)))))) j (omega arith) h

-- a core: four cells, two transactions
each_in_core : (P : ℕ → Type 0) → P 0 → P 1 → P 2 → P 3 → ((i : ℕ) → i < 19 → P (4 + i)) → ((i : ℕ) → i < 19 → P (23 + i)) → (j : ℕ) → j < 42 → P j
each_in_core P p q r s f g j h =
    one P 42 0 p (one P 42 1 q (one P 42 2 r (one P 42 3 s (part P 42 4 19 f (part P 42 23 19 g (λ j l h. absurd (omega arith))))))) j (omega arith) h

each_cell : (P : ℕ → Type 0) → P 0 → P 1 → P 2 → P 3 → P 4 → P 5 → P 6 → ((c : ℕ) → c < 8 → P (tail_place c)) → ((c : ℕ) → c < 8 → P (tail_place c + 1))
    → ((b : ℕ) → b < 64 → P (holder_place b)) → ((c j : ℕ) → c < 8 → j < 42 → P (core_place c + j)) → (i : ℕ) → i < 423 → P i
each_cell P p q r s t u v ns ps hs ks i h =
    one P 423 0 p (one P 423 1 q (one P 423 2 r (one P 423 3 s (one P 423 4 t (one P 423 5 u (one P 423 6 v
    (part P 423 7 16 tails (part P 423 23 64 hs (part P 423 87 336 cores (λ j l h. absurd (omega arith))))))))))) i (omega arith) h
  where
    tails : (i : ℕ) → i < 16 → P (7 + i)
    tails i l =
        cases (eqb (i % 2) 0)
        (λ t. let e : 7 + 2 * (i / 2) ≡ 7 + i = omega (arith, eqb-true (i % 2) 0 t) in subst P e (ns (i / 2) (omega arith)))
        (λ t. let e : 7 + 2 * (i / 2) + 1 ≡ 7 + i = omega (arith, eqb-false (i % 2) 0 t) in subst P e (ps (i / 2) (omega arith)))

    cores : (i : ℕ) → i < 336 → P (87 + i)
    cores i l = let e : 87 + 42 * (i / 42) + i % 42 ≡ 87 + i = omega arith in subst P e (ks (i / 42) (i % 42) (omega arith) (omega arith))

-- ---- a transaction
module _ (t : Transaction) (i : ℕ) where
  block_cell : i < 8 → transaction_cell t (3 + i) ≡ get_or t.blocks i 0
  unfolding transaction_cell
  block_cell h = let e : 3 + i - 3 ≡ i = omega arith in rw (le-ltb (3 + i) 3 (omega arith), lt-ltb (3 + i) 11 (omega arith), e)

  highest_cell : transaction_cell t (11 + i) ≡ highest_of t i
  unfolding transaction_cell
  highest_cell = let e : 11 + i - 11 ≡ i = omega arith in rw (le-ltb (11 + i) 3 (omega arith), le-ltb (11 + i) 11 (omega arith), e)

module _ (w : List ℕ) (a : ℕ) where
  beside : (k i : ℕ) → get_or w (a + (k + i)) 0 ≡ get_or w (a + k + i) 0
  beside k i = let z : a + (k + i) ≡ a + k + i = omega arith in rw z

  block_fits : (i : ℕ) → i < 8 → fits_transaction (3 + i) (get_or w (a + (3 + i)) 0) ≡ eqb (get_or w (a + (3 + i)) 0) (transaction_cell (transaction_in w a) (3 + i))
  unfolding fits_transaction
  block_fits i h =
      rw (block_cell (transaction_in w a) i h, block_read w a i 0 h, beside 3 i, ne_eqb (3 + i) 0 (omega arith), ne_eqb (3 + i) 1 (omega arith), lt-ltb (3 + i) 11 (omega arith))
      (byte_fits (get_or w (a + 3 + i) 0))

  highest_fits : (i : ℕ) → i < 8 → fits_transaction (11 + i) (get_or w (a + (11 + i)) 0) ≡ eqb (get_or w (a + (11 + i)) 0) (transaction_cell (transaction_in w a) (11 + i))
  unfolding fits_transaction
  highest_fits i h =
      rw (highest_cell (transaction_in w a) i, highest_read w a i h, beside 11 i, ne_eqb (11 + i) 0 (omega arith), ne_eqb (11 + i) 1 (omega arith), le-ltb (11 + i) 11 (omega arith))
      (number_fits (get_or w (a + 11 + i) 0))

  transaction_fits : (j : ℕ) → j < 19 → fits_transaction j (get_or w (a + j) 0) ≡ eqb (get_or w (a + j) 0) (transaction_cell (transaction_in w a) j)
  unfolding fits_transaction transaction_cell transaction_in
  transaction_fits =
      each_in_transaction _ (let z : a + 0 ≡ a = omega arith in rw z (flag_fits (get_or w a 0))) (same_fits (get_or w (a + 1) 0)) (byte_fits (get_or w (a + 2) 0)) block_fits highest_fits

  transaction_back : (t : Transaction) → SizedTransaction t → ((j : ℕ) → j < 19 → get_or w (a + j) 0 ≡ transaction_cell t j) → transaction_in w a ≡ t
  unfolding transaction_in transaction_cell highest_of
  transaction_back t s e =
      transaction_cong _ _ _ _ _ _ _ _ _ _
      (let z : a + 0 ≡ a = omega arith in ap (λ (n : ℕ). not (eqb n 0)) (rw z at (e 0 (omega arith))) ∙ flag_back t.live)
      (e 1 (omega arith))
      (omega (arith, e 2 (omega arith)))
      (table_is _ 8 0 t.blocks s.lengths.0 (λ i h. omega (arith, s.block i h, beside 3 i, e (3 + i) (omega arith), block_cell t i h)))
      (table_is _ 8 0 t.highest s.lengths.1 (λ i h. omega (arith, s.highest i h, beside 11 i, e (11 + i) (omega arith), highest_cell t i)))

  transaction_sized : SizedTransaction (transaction_in w a)
  unfolding transaction_in
  transaction_sized =
      record {
        count = omega arith;
        lengths = (length_tabled _ 8, length_tabled _ 8);
        block = λ i h. omega (arith, block_read w a i 0 h);
        highest = λ i h. omega (arith, highest_read w a i h);
      }

-- ---- a core
running_cell : (k : Core) (i : ℕ) → i < 19 → core_cell k (4 + i) ≡ transaction_cell k.running i
unfolding core_cell
running_cell k i h = let e : 4 + i - 4 ≡ i = omega arith in rw (le-ltb (4 + i) 4 (omega arith), lt-ltb (4 + i) 23 (omega arith), e)

closed_cell : (k : Core) (i : ℕ) → core_cell k (23 + i) ≡ transaction_cell k.closed i
unfolding core_cell
closed_cell k i = let e : 23 + i - 23 ≡ i = omega arith in rw (le-ltb (23 + i) 4 (omega arith), le-ltb (23 + i) 23 (omega arith), e)

-- its transaction that begins with cell m
inside_fits : (w : List ℕ) (a m : ℕ) → 4 ≤ m → m % 19 ≡ 4 → (i : ℕ) → i < 19 → fits_core (m + i) (get_or w (a + (m + i)) 0) ≡ eqb (get_or w (a + (m + i)) 0) (transaction_cell (transaction_in w (a + m)) i)
unfolding fits_core
inside_fits w a m p q i h = rw (beside w a m i, ne_eqb (m + i) 0 (omega arith), le-ltb (m + i) 4 (omega arith), in_place m i q h) (transaction_fits w (a + m) i h)

module _ (w : List ℕ) (a : ℕ) where
  core_fits : (j : ℕ) → j < 42 → fits_core j (get_or w (a + j) 0) ≡ eqb (get_or w (a + j) 0) (core_cell (core_in w a) j)
  unfolding fits_core core_cell core_in
  core_fits =
      each_in_core _
      (let z : a + 0 ≡ a = omega arith in rw z (number_fits (get_or w a 0))) (byte_fits (get_or w (a + 1) 0)) (byte_fits (get_or w (a + 2) 0)) (byte_fits (get_or w (a + 3) 0))
      (λ i h. inside_fits w a 4 (omega arith) refl i h ∙ ap (eqb _) (sym (running_cell (core_in w a) i h)))
      (λ i h. inside_fits w a 23 (omega arith) refl i h ∙ ap (eqb _) (sym (closed_cell (core_in w a) i)))

  core_back : (k : Core) → SizedCore k → ((j : ℕ) → j < 42 → get_or w (a + j) 0 ≡ core_cell k j) → core_in w a ≡ k
  unfolding core_in core_cell
  core_back k s e =
      core_cong _ _ _ _ _ _ _ _ _ _ _ _
      (let z : a + 0 ≡ a = omega arith in omega (arith, rw z at (e 0 (omega arith))))
      (omega (arith, e 1 (omega arith)))
      (omega (arith, e 2 (omega arith)))
      (omega (arith, e 3 (omega arith)))
      (transaction_back w (a + 4) k.running s.running (λ i h. sym (beside w a 4 i) ∙ e (4 + i) (omega arith) ∙ running_cell k i h))
      (transaction_back w (a + 23) k.closed s.closed (λ i h. sym (beside w a 23 i) ∙ e (23 + i) (omega arith) ∙ closed_cell k i))

  core_sized : SizedCore (core_in w a)
  unfolding core_in
  core_sized =
      record { next = omega arith; used = omega arith; stored = omega arith; homed = omega arith; running = transaction_sized w (a + 4); closed = transaction_sized w (a + 23) }

-- ---- the cells of a card
module _ (x : Card) (n : ℕ) where
  cell_at : (i : ℕ) → i < 423 → get_or (cells_of x n) i 0 ≡ cell_of x n i
  unfolding cells_of
  cell_at i h = get_or_map_below (cell_of x n) 423 i 0 h

  pub cells_long : length (cells_of x n) ≡ 423
  unfolding cells_of
  cells_long = length_tabled (cell_of x n) 423

  pub stores_of_cells : stores_in (cells_of x n) ≡ n
  unfolding cell_of header_cell
  stores_of_cells = cell_at 6 (omega arith)

  number_cell : (c : ℕ) → c < 8 → cell_of x n (tail_place c) ≡ (tail_of x c).number
  unfolding cell_of tail_cell
  number_cell c h =
      let e : (7 + 2 * c - 7) / 2 ≡ c = omega arith in
      rw (le-ltb (7 + 2 * c) 7 (omega arith), lt-ltb (7 + 2 * c) 23 (omega arith), eq-eqb ((7 + 2 * c - 7) % 2) 0 (omega arith), e)

  position_cell : (c : ℕ) → c < 8 → cell_of x n (tail_place c + 1) ≡ (tail_of x c).position
  unfolding cell_of tail_cell
  position_cell c h =
      let e : (7 + 2 * c + 1 - 7) / 2 ≡ c = omega arith in
      rw (le-ltb (7 + 2 * c + 1) 7 (omega arith), lt-ltb (7 + 2 * c + 1) 23 (omega arith), ne_eqb ((7 + 2 * c + 1 - 7) % 2) 0 (omega arith), e)

  holder_at : (b : ℕ) → b < 64 → cell_of x n (holder_place b) ≡ holder_cell (holder_of x b)
  unfolding cell_of
  holder_at b h =
      let e : 23 + b - 23 ≡ b = omega arith in
      rw (le-ltb (23 + b) 7 (omega arith), le-ltb (23 + b) 23 (omega arith), lt-ltb (23 + b) 87 (omega arith), e)

  core_cell_lem : (c j : ℕ) → c < 8 → j < 42 → cell_of x n (core_place c + j) ≡ core_cell (core_of x c) j
  unfolding cell_of
  core_cell_lem c j h l =
      let e : (87 + 42 * c + j - 87) % 42 ≡ j = omega arith in
      let d : (87 + 42 * c + j - 87) / 42 ≡ c = omega arith in
      rw (le-ltb (87 + 42 * c + j) 7 (omega arith), le-ltb (87 + 42 * c + j) 23 (omega arith), le-ltb (87 + 42 * c + j) 87 (omega arith), e, d)

  pub card_of_cells : SizedCard x → card_in (cells_of x n) ≡ x
  unfolding card_in cell_of header_cell tail_from tail_of core_of holder_of
  card_of_cells s =
      card_cong _ _ _ _ _ _ _ _ _ _ _ _ _ _
      (ap phase_in (cell_at 0 (omega arith)) ∙ phase_back x.phase)
      (shape_cong _ _ _ _ _ _ (omega (arith, cell_at 1 (omega arith))) (omega (arith, cell_at 2 (omega arith))) (omega (arith, cell_at 3 (omega arith))))
      (cell_at 4 (omega arith))
      (omega (arith, cell_at 5 (omega arith)))
      (table_is _ 8 (new_tail 0 0) x.tails s.lengths.0 (λ c h.
      tail_cong _ _ _ _
      (omega (arith, (s.tail c h).number, cell_at (tail_place c) (omega arith), number_cell c h))
      (omega (arith, (s.tail c h).position, cell_at (tail_place c + 1) (omega arith), position_cell c h))))
      (table_is _ 8 (fresh_core 0) x.cores s.lengths.1 (λ c h.
      core_back (cells_of x n) (core_place c) (core_of x c) (s.core c h) (λ j l. cell_at (core_place c + j) (omega arith) ∙ core_cell_lem c j h l)))
      (table_is _ 64 no_holder x.holders s.lengths.2 (λ b h.
      ap holder_in (cell_at (holder_place b) (omega arith) ∙ holder_at b h) ∙ holder_back (holder_of x b) (s.holder b h)))

-- ---- the card of cells w
module _ (w : List ℕ) where
  pub card_sized : SizedCard (card_in w)
  unfolding card_in tail_from holder_in
  card_sized =
      record {
        shape = omega arith;
        recovered = omega arith;
        lengths = (length_tabled _ 8, length_tabled _ 8, length_tabled _ 64);
        tail = λ c h. subst SizedTail (sym (tail_at w c h)) (omega arith);
        core = λ c h. subst SizedCore (sym (core_of_card_in w c h)) (core_sized w (core_place c));
        holder = λ b h. subst SizedHolder (sym (holder_read w b h)) (holder_sized (eqb (get_or w (holder_place b) 0) 0) _ (name_sized (get_or w (holder_place b) 0 - 1)));
      }

  cell_fits : (i : ℕ) → i < 423 → fits_at i (get_or w i 0) ≡ eqb (get_or w i 0) (cell_of (card_in w) (stores_in w) i)
  unfolding fits_at fits_header cell_of header_cell card_in tail_from
  cell_fits =
      each_cell _
      (phase_fits (get_or w 0 0)) (byte_fits (get_or w 1 0)) (byte_fits (get_or w 2 0)) (byte_fits (get_or w 3 0)) (same_fits (get_or w 4 0)) (byte_fits (get_or w 5 0)) (same_fits (get_or w 6 0))
      (λ c h. fits_in_number c (get_or w (tail_place c) 0) h ∙ number_fits (get_or w (tail_place c) 0) ∙ ap (eqb _) (sym (number_cell (card_in w) (stores_in w) c h ∙ ap (λ (t : Tail). t.number) (tail_at w c h))))
      (λ c h. fits_in_position c (get_or w (tail_place c + 1) 0) h ∙ byte_fits (get_or w (tail_place c + 1) 0) ∙ ap (eqb _) (sym (position_cell (card_in w) (stores_in w) c h ∙ ap (λ (t : Tail). t.position) (tail_at w c h))))
      (λ b h. fits_in_holder b (get_or w (holder_place b) 0) h ∙ holder_fits (get_or w (holder_place b) 0) ∙ ap (eqb _) (sym (holder_at (card_in w) (stores_in w) b h ∙ ap holder_cell (holder_read w b h))))
      (λ c j h l. fits_in_core c j _ h l ∙ core_fits w (core_place c) j l ∙ ap (eqb _) (sym (core_cell_lem (card_in w) (stores_in w) c j h l ∙ ap (λ (k : Core). core_cell k j) (core_of_card_in w c h))))

  pub fits_exact : length w ≡ 423 → AllFit w → Exact w
  unfolding AllFit Exact
  fits_exact l f =
      ext_get_or 0 _ _ (l ∙ sym (cells_long (card_in w) (stores_in w)))
      (λ i h. let k : i < 423 = omega arith in eqb-true _ _ (sym (cell_fits i k) ∙ f i k) ∙ sym (cell_at (card_in w) (stores_in w) i k))

  pub exact_fits : Exact w → AllFit w
  unfolding AllFit Exact
  exact_fits e i h = cell_fits i h ∙ eq-eqb _ _ (ap (λ (v : List ℕ). get_or v i 0) e ∙ cell_at (card_in w) (stores_in w) i h)

-- the cells of a card within its widths are those of their card and count
pub sized_exact : (x : Card) (n : ℕ) → SizedCard x → Exact (cells_of x n)
unfolding Exact
sized_exact x n s = sym (ap₂ cells_of (card_of_cells x n s) (stores_of_cells x n))

-- ---- the card blank, and down
zero_fits : AllFit (replicate 423 0)
unfolding AllFit
zero_fits i h = ap (fits_at i) (get_or-replicate 423 i 0 0 h) ∙ fits_zero i

pub blank_read : card_in (replicate 423 0) ≡ blank_card
unfolding card_in core_in transaction_in name_in holder_in tail_from phase_in below blank_card empty_card fresh_card
blank_read = refl

pub blank_cells : cells_of blank_card 0 ≡ replicate 423 0
unfolding Exact
blank_cells = ap (λ (x : Card). cells_of x 0) (sym blank_read) ∙ sym (fits_exact (replicate 423 0) (length-replicate {A = ℕ} 423 0) zero_fits)

pub down_read : card_in (set (replicate 423 0) 0 2) ≡ down_card
unfolding card_in core_in transaction_in name_in holder_in tail_from phase_in below down_card empty_card fresh_card
down_read = refl

pub down_cells : cells_of down_card 0 ≡ set (replicate 423 0) 0 2
unfolding Exact
down_cells =
    ap (λ (x : Card). cells_of x 0) (sym down_read)
    ∙ sym (fits_exact (set (replicate 423 0) 0 2) refl (fits_set _ 0 2 (fits_phase 2 (omega arith)) zero_fits))

-- so a run starts with such cells
pub blank_exact : Exact (cells_of blank_card 0)
blank_exact = sized_exact blank_card 0 (subst SizedCard blank_read (card_sized (replicate 423 0)))

pub down_exact : Exact (cells_of down_card 0)
down_exact = sized_exact down_card 0 (subst SizedCard down_read (card_sized (set (replicate 423 0) 0 2)))
