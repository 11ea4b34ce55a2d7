-- A core's oldest transaction is the record at its tail. It is in the valid set exactly if a record of its core
-- counts there: else 32; and 33 exactly if one of lower stamp shares a block with it.
use Rattle.model.proofs.Base.{ℕ, ◌-◌, ◌<◌, min, arith, dec_lt, ◌≡◌, refl, sym, ap, subst, ◌∙◌, Bool, true, false, cond, ◌&&◌, ◌||◌}
use Rattle.model.proofs.Base.{List, length, get_or, eqb, ltb, lt-ltb, below, any, [], Bytes}
use Rattle.model.specs.Card.{shape_of, tail_of, core_of, committed_count}
use Rattle.model.specs.Journal.{record_at, journal, name_of}
use Rattle.model.specs.Valid.{in_sequence, is_in, valid_set}
use Rattle.model.specs.Command.{refusal}
use Rattle.model.specs.Checkpoint.{committed_now, valid_now, shares_lower, found_conditions}
use Rattle.model.specs.declared.Shape.{Shape}
use Rattle.model.specs.declared.Tail.{Tail}
use Rattle.model.specs.declared.Card.{Card}
use Rattle.model.specs.declared.CommitLayout.TheVariants.{Numbers}
use Rattle.model.specs.declared.Committed.{Committed}
use Rattle.std.specs.Prelude.{Option, Some, None}
use Rattle.model.proofs.Limits.{InRange}
use Rattle.model.proofs.OneStore.{shape_limits}
use Rattle.model.proofs.Journal.{KnownRecord, record_known, records_all}
use Rattle.layout.specs.Loops.{some}
use Rattle.journal.specs.declared.extents.Extent.{Extent}
use Rattle.journal.specs.Records.{tail_for, numbers_of, records_in, RunsTested}
use Rattle.journal.proofs.Reading.{number_at}
use Rattle.valid.specs.Sets.{tail_number, numbered}
use Rattle.images.specs.Newest.{shares_below}
use Rattle.valid.proofs.Commands.{records_read, records_valid}
use Rattle.valid.proofs.Sets.{in_count}
use Rattle.cells.specs.Cells.{world}
use Rattle.oldest.specs.Oldest.{count_at, counts, oldest_at, ReadNow, IsRead, lower_closed, closed_lower, lower_shares, IsOldest}
use Rattle.oldest.proofs.CardLaws.{core_low}
use Rattle.oldest.proofs.CountLaws.{count_in}

-- ---- the oldest transaction
pub whole_known : (t : Bool) (f : Option Committed) (e : Committed) → cond t None f ≡ Some e → (t ≡ false) × (f ≡ Some e)
whole_known true f e h = let z : ◌≡◌ {A = ℕ} 0 1 = cc in absurd (omega arith)
whole_known false f e h = (refl, h)

module _ (x : Card) (d : Bytes) (c : ℕ) where
  abbrev pub at_tail : Option Committed
  at_tail = record_at Numbers (shape_of x) d c (tail_of x c).number (tail_of x c).position (shape_of x).journal

  module _ (e : Committed) (h : oldest_at x d c ≡ Some e) where
    pub at_tail_lem : at_tail ≡ Some e
    unfolding oldest_at
    at_tail_lem = (whole_known (eqb (count_at x c) 0) at_tail e h).1

    pub tail_known : KnownRecord Numbers (shape_of x) d c (tail_of x c).number e
    tail_known = (record_known Numbers (shape_of x) d c (tail_of x c).number (tail_of x c).position (shape_of x).journal e at_tail_lem).0

    pub was_read : length d ≡ 32896 → c < (shape_of x).cores → IsRead (shape_of x) d e
    was_read n l =
        let k = tail_known in
        record {
          long = n;
          range = shape_limits x;
          core = omega (arith, k.core);
          known =
              subst (λ (n : ℕ). KnownRecord Numbers (shape_of x) d e.core n e) (sym k.number)
              (subst (λ (i : ℕ). KnownRecord Numbers (shape_of x) d i (tail_of x c).number e) (sym k.core) k);
        }

module _ (x : Card) (d : Bytes) (c : ℕ) (xs : List Extent) (start count : List ℕ) (e : Committed) (h : IsOldest x d c xs start count e) where
  pub oldest_was_read : IsRead (shape_of x) d e
  oldest_was_read = was_read x d c e h.first h.long h.core

  pub oldest_core : c < 8
  oldest_core = core_low x c h.core

  pub runs_tested : (s : Shape) → s ≡ shape_of x → RunsTested s d xs start count
  runs_tested s p = rw p h.read.tested

-- ---- the records read are the card's committed transactions
journal_capped : (s : Shape) (d : Bytes) (c : ℕ) (t : Tail) (n : ℕ) → InRange s → journal Numbers s d c t (min n 12) ≡ journal Numbers s d c t n
unfolding journal
journal_capped s d c t n l =
    elim (dec_lt 12 n) [
      | yes h ↦ (let z : min n 12 ≡ 12 = omega arith in rw z (records_all Numbers s d c 12 n t.number t.position s.journal (omega (arith, l.short)) (omega arith)))
      | no h ↦ (let z : min n 12 ≡ n = omega arith in rw z)
    ]

card_tail : (x : Card) (c : ℕ) → c < (shape_of x).cores → tail_for x.tails c ≡ tail_of x c
unfolding tail_of
card_tail x c h = refl

pub card_bound : (x : Card) (d : Bytes) (c : ℕ) → c < (shape_of x).cores
    → journal Numbers (shape_of x) d c (tail_of x c) (get_or (counts x) c 0) ≡ journal Numbers (shape_of x) d c (tail_of x c) (committed_count x c)
unfolding count_at
card_bound x d c h = rw (count_in x c (core_low x c h)) (journal_capped (shape_of x) d c (tail_of x c) (committed_count x c) (shape_limits x))

-- of a card and what was read by it
module _ (x : Card) (d : Bytes) (xs : List Extent) (start count : List ℕ) (r : ReadNow x d xs start count) (m : Bytes) where
  committed_read : records_in (shape_of x) xs (numbers_of x.tails) start count ≡ committed_now (world x d m)
  unfolding committed_now
  committed_read =
      records_read Numbers (shape_limits x) d x.tails (counts x) xs start count r.reads (tail_of x) (committed_count x) (card_tail x) (card_bound x d)

  valid_read : (begin few : List ℕ)
      → records_in (shape_of x) xs (numbers_of x.tails) begin few
      ≡ valid_set in_sequence Numbers (shape_of x) d (numbered (numbers_of x.tails)) (records_in (shape_of x) xs (numbers_of x.tails) start count)
      → records_in (shape_of x) xs (numbers_of x.tails) begin few ≡ valid_now in_sequence (world x d m)
  unfolding valid_now committed_now
  valid_read begin few v =
      records_valid Numbers (shape_limits x) d x.tails (counts x) xs start count r.reads (tail_of x) (committed_count x) (card_tail x) (card_bound x d)
      in_sequence begin few v

  -- those of lower stamp that share a block
  lower_parts : (e : Committed) → lower_shares x (shape_of x) d xs start count e ≡ shares_lower (world x d m) e
  unfolding lower_shares shares_lower some closed_lower lower_closed shares_below
  lower_parts e =
      ap
      (λ (es : List Committed). any (shares_below (shape_of x) d e) es || any (λ (c : ℕ). lower_closed (shape_of x) d e (core_of x c).closed) (below (shape_of x).cores))
      committed_read

-- ---- the valid set
number_same : (x : Card) (c : ℕ) → c < 8 → tail_number (numbers_of x.tails) c ≡ (tail_of x c).number
unfolding tail_number tail_of
number_same x c h = rw (lt-ltb c 8 h) (number_at x.tails c h)

here_first : (s : Shape) (count : List ℕ) (n c k : ℕ) → c < s.cores → k ≡ n → (ltb c s.cores && ltb (k - n) (get_or count c 0)) ≡ ltb 0 (get_or count c 0)
here_first s count n c k h e = let z : k - n ≡ 0 = omega arith in rw (lt-ltb c s.cores h, z)

-- the oldest is in a set exactly where a record of its core counts
oldest_counts : (x : Card) (d : Bytes) (c : ℕ) (e : Committed) → oldest_at x d c ≡ Some e → c < (shape_of x).cores → (xs : List Extent) (begin few : List ℕ)
    → is_in (records_in (shape_of x) xs (numbers_of x.tails) begin few) (name_of e) ≡ ltb 0 (get_or few c 0)
oldest_counts x d c e h l xs begin few =
    let k = tail_known x d c e h in
    let n : tail_number (numbers_of x.tails) e.core ≡ (tail_of x c).number = ap (tail_number (numbers_of x.tails)) k.core ∙ number_same x c (core_low x c l) in
    let q : e.number ≡ tail_number (numbers_of x.tails) e.core = k.number ∙ sym n in
    in_count (shape_of x) xs (numbers_of x.tails) begin few (shape_limits x) (name_of e) (omega arith)
    ∙ here_first (shape_of x) few (tail_number (numbers_of x.tails) e.core) e.core e.number (omega (arith, k.core)) q
    ∙ ap (λ (i : ℕ). ltb 0 (get_or few i 0)) k.core

-- ---- the number from the journals; `few` are the counts of the valid set
module _ (x : Card) (d : Bytes) (c : ℕ) (xs : List Extent) (start count : List ℕ) (e : Committed) (h : IsOldest x d c xs start count e) (s : Shape) (p : s ≡ shape_of x)
    (ts : List Tail) (y : ts ≡ x.tails) (begin few : List ℕ)
    (v : records_in s xs (numbers_of ts) begin few ≡ valid_set in_sequence Numbers s d (numbered (numbers_of ts)) (records_in s xs (numbers_of ts) start count)) where
  told : (m : Bytes) → is_in (valid_now in_sequence (world x d m)) (name_of e) ≡ ltb 0 (get_or few c 0)
  told m =
      ap (λ (es : List Committed). is_in es (name_of e)) (sym (valid_read x d xs start count h.read m begin few (rw (p, y) at v)))
      ∙ oldest_counts x d c e h.first h.core xs begin few

  pub found_conditions_32 : get_or few c 0 ≡ 0 → (m : Bytes) → 32 ≡ refusal (found_conditions in_sequence e (world x d m) [])
  unfolding found_conditions refusal
  found_conditions_32 z m = rw (told m, z)

  module _ (z : get_or few c 0 ≡ 0 → ⊥) (g : Bool) (k : g ≡ lower_shares x s d xs start count e) where
    in_valid : (m : Bytes) → is_in (valid_now in_sequence (world x d m)) (name_of e) ≡ true
    in_valid m = told m ∙ lt-ltb 0 (get_or few c 0) (omega (arith, z))

    shares : (m : Bytes) → g ≡ shares_lower (world x d m) e
    shares m = (rw p at k) ∙ lower_parts x d xs start count h.read m e

    pub found_conditions_33 : g ≡ true → (m : Bytes) → 33 ≡ refusal (found_conditions in_sequence e (world x d m) [])
    unfolding found_conditions refusal
    found_conditions_33 t m = rw (in_valid m, ← shares m, t)

    pub found_conditions_none : g ≡ false → (m : Bytes) → 0 ≡ refusal (found_conditions in_sequence e (world x d m) [])
    unfolding found_conditions refusal
    found_conditions_none t m = rw (in_valid m, ← shares m, t)
