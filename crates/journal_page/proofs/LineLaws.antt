-- Any line: digits and letters by their places, the columns of a field, the first field that has a column.
use native.Mathlib.Nat.{pow-zero, pow-suc, pow-succ', div-one, div-div-eq-div-mul}
use Rattle.model.proofs.Base.{ℕ, zero, suc, ◌+◌, ◌-◌, ◌/◌, ◌%◌, ◌^◌, ◌≤◌, ◌<◌, arith, dec_lt, add-one, ◌≡◌, refl, sym, ap, ◌∙◌, Bool, true, false}
use Rattle.model.proofs.Base.{cond, ◌&&◌, List, [], ◌∷◌, length, get_or, get_or_at, length-map, list_get_or_append, ltb, leb}
use Rattle.model.proofs.Base.{lt-ltb, le-ltb, ltb-true, le-leb, lt-leb, leb-true, below, Bytes}
use Rattle.model.specs.Bytes.{bytes}
use Rattle.model.specs.JournalPage.{space, line_feed, digit_at, numeral, covers, shown_at, byte_at, line_bytes, lay_number, laid}
use Rattle.model.specs.JournalPage as page
use Rattle.model.proofs.Lists.{length_below, get_or_map_below, and_left, and_right}
use Rattle.model.proofs.Words.{length_bytes}
use Rattle.journal_page.proofs.Numerals.{digit_blank, digit_left, digit_last}
use Rattle.journal_page.proofs.PageLaws.{lay_done, lay_refused}
use Rattle.layout.proofs.Loops.{Filled, filled_all}
use Rattle.std.specs.Prelude.{Option, None, Some}
use Rattle.model.proofs.Base.{drop}
use lib.Seq.{drop-cons}
use lib.ListN.{drop_of_length-le}
use Rattle.journal_page.specs.declared.line.Field.{Field}
use Rattle.journal_page.specs.declared.line.Shown.{Shown}
use Rattle.journal_page.specs.declared.line.Shown.TheVariants.{Number, Word}
use Rattle.journal_page.specs.Fields.{new_field, field_in, fields_in, field_byte}

-- ---- a number without its lowest places
pub shift_none : (n b : ℕ) → n ≡ n / b ^ 0
shift_none n b = sym (ap (λ (x : ℕ). n / x) (pow-zero b) ∙ div-one n)

pub shift_more : (n b i m : ℕ) → m ≡ n / b ^ i → m / b ≡ n / b ^ (i + 1)
shift_more n b i m e =
    ap (λ (x : ℕ). x / b) e ∙ div-div-eq-div-mul n (b ^ i) b ∙ ap (λ (x : ℕ). n / x) (sym (pow-suc b i)) ∙ ap (λ (x : ℕ). n / b ^ x) (sym (add-one i))

module _ (n place left : ℕ) (e : left ≡ n / 10 ^ place) where
  pub last_place : (r : ℕ) → r ≡ 0x30 + left % 10 → place ≡ 0 → r ≡ digit_at n place
  last_place r q h =
      let whole : left ≡ n = e ∙ ap (λ (k : ℕ). n / 10 ^ k) h ∙ sym (shift_none n 10) in
      q ∙ ap (λ (x : ℕ). 0x30 + x % 10) whole ∙ sym (digit_last n) ∙ ap (digit_at n) (sym h)

  pub none_left : (place ≡ 0 → ⊥) → left ≡ 0 → space ≡ digit_at n place
  none_left h z = sym (digit_blank n place h (sym e ∙ z))

  pub some_left : (r : ℕ) → r ≡ 0x30 + left % 10 → (left ≡ 0 → ⊥) → r ≡ digit_at n place
  some_left r q h = q ∙ ap (λ (x : ℕ). 0x30 + x % 10) e ∙ sym (digit_left n place (λ z. h (e ∙ z)))

-- ---- a word: its letters are the bytes of a number
letter : (w n i d : ℕ) → i < w → get_or (bytes w n) i d ≡ n / 256 ^ (w - (i + 1)) % 256
unfolding bytes
letter zero n i d h = absurd (omega arith)
letter (suc w) n i d h =
    elim (dec_lt i w) [
      | yes l ↦ (
          let e : w - (i + 1) + 1 ≡ suc w - (i + 1) = omega arith in
          list_get_or_append (bytes w (n / 256)) (n % 256 ∷ []) d i (omega (arith, length_bytes w (n / 256)))
          ∙ letter w (n / 256) i d l
          ∙ ap (λ (x : ℕ). x % 256) (div-div-eq-div-mul n 256 (256 ^ (w - (i + 1))) ∙ ap (λ (x : ℕ). n / x) (sym (pow-succ' 256 (w - (i + 1)))))
          ∙ ap (λ (x : ℕ). n / 256 ^ x % 256) (sym (add-one (w - (i + 1))) ∙ e))
      | no g ↦ (
          let e : suc w - (i + 1) ≡ 0 = omega arith in
          get_or_at (bytes w (n / 256)) (n % 256) [] d i (omega (arith, length_bytes w (n / 256)))
          ∙ ap (λ (x : ℕ). x % 256) (shift_none n 256)
          ∙ ap (λ (x : ℕ). n / 256 ^ x % 256) (sym e))
    ]

-- ---- the columns of a field
width_of : (a w : ℕ) (s : Shown) → length (field_in (new_field a w s)).text ≡ w
unfolding field_in numeral
width_of a w (Number n) = length-map (below w) _ ∙ length_below w
width_of a w (Word n) = length_bytes w n

first_of : (a w : ℕ) (s : Shown) → (field_in (new_field a w s)).first ≡ a
unfolding field_in numeral
first_of a w (Number n) = refl
first_of a w (Word n) = refl

module _ (f : Field) where
  width_is : length (field_in f).text ≡ f.width
  width_is = width_of f.first f.width f.shown

  first_is : (field_in f).first ≡ f.first
  first_is = first_of f.first f.width f.shown

  module _ (k : ℕ) where
    columns : covers (field_in f) k ≡ (leb f.first k && ltb k (f.first + f.width))
    unfolding covers
    columns = rw (width_is, first_is)

    pub before_field : k < f.first → false ≡ covers (field_in f) k
    before_field h = rw (columns, lt-leb f.first k h)

    pub from_field : f.first ≤ k → ltb (k - f.first) f.width ≡ covers (field_in f) k
    from_field h =
        rw (columns, le-leb f.first k h)
        (elim (dec_lt k (f.first + f.width)) [
          | yes l ↦ lt-ltb (k - f.first) f.width (omega arith) ∙ sym (lt-ltb k (f.first + f.width) l)
          | no g ↦ le-ltb (k - f.first) f.width (omega arith) ∙ sym (le-ltb k (f.first + f.width) (omega arith))
        ])

    module _ (h : covers (field_in f) k ≡ true) where
      pub covered_from : f.first ≤ k
      covered_from = leb-true _ _ (and_left (leb f.first k) (ltb k (f.first + f.width)) (sym columns ∙ h))

      pub covered_to : k < f.first + f.width
      covered_to = ltb-true _ _ (and_right (leb f.first k) (ltb k (f.first + f.width)) (sym columns ∙ h))

      pub covered_wide : 1 ≤ f.width
      covered_wide = omega (arith, covered_from, covered_to)

      pub covered_place : k - f.first ≤ f.width - 1
      covered_place = omega (arith, covered_from, covered_to)

      module _ (place : ℕ) (e : place ≡ f.width - 1 - (k - f.first)) where
        same_place : place ≡ f.width - (k - f.first + 1)
        same_place = omega arith

        pub shows_letter : (v : ℕ) → f.shown ≡ Word v → (r : ℕ) → r ≡ v / 256 ^ place % 256 → r ≡ field_byte (field_in f) k
        unfolding field_byte field_in
        shows_letter v t r q =
            q ∙ ap (λ (x : ℕ). v / 256 ^ x % 256) same_place
            ∙ sym (letter f.width v (k - f.first) space (omega (arith, covered_from, covered_to)))
            ∙ ap (λ (s : Shown). field_byte (field_in (new_field f.first f.width s)) k) (sym t)

        pub shows_digit : (v : ℕ) → f.shown ≡ Number v → (r : ℕ) → r ≡ digit_at v place → r ≡ field_byte (field_in f) k
        unfolding field_byte field_in numeral
        shows_digit v t r q =
            q ∙ ap (digit_at v) same_place
            ∙ sym (get_or_map_below (λ (i : ℕ). digit_at v (f.width - (i + 1))) f.width (k - f.first) space (omega (arith, covered_from, covered_to)))
            ∙ ap (λ (s : Shown). field_byte (field_in (new_field f.first f.width s)) k) (sym t)

-- ---- the first field that has a column
-- those from the i-th on show what all show
pub record ShownFrom (fs : List (Option Field)) (k i : ℕ) : Type 0 where
  pub same : shown_at (fields_in fs) k ≡ shown_at (fields_in (drop i fs)) k

module _ (fs : List (Option Field)) (size : length fs ≡ 6) (k i : ℕ) (w : ShownFrom fs k i) where
  module _ (l : i < 6) (o : Option Field) (e : get_or fs i None ≡ o) where
    here : shown_at (fields_in fs) k ≡ shown_at (fields_in (o ∷ drop (suc i) fs)) k
    here = w.same ∙ ap (λ (gs : List (Option Field)). shown_at (fields_in gs) k) (drop-cons fs i None (omega arith) ∙ ap (λ (p : Option Field). p ∷ drop (suc i) fs) e)

  pub shown_none : i < 6 → get_or fs i None ≡ None → ShownFrom fs k (i + 1)
  unfolding fields_in
  shown_none l e = record { same = rw add-one (here l None e) }

  module _ (l : i < 6) (f : Field) (e : get_or fs i None ≡ Some f) (r : Bool) (c : r ≡ covers (field_in f) k) where
    first_here : shown_at (fields_in fs) k ≡ cond (covers (field_in f) k) (field_byte (field_in f) k) (shown_at (fields_in (drop (suc i) fs)) k)
    unfolding fields_in shown_at field_byte
    first_here = here l (Some f) e

    pub shown_hit : r ≡ true → (x : ℕ) → x ≡ field_byte (field_in f) k → x ≡ shown_at (fields_in fs) k
    shown_hit g x q = q ∙ sym (first_here ∙ rw (← c, g))

    pub shown_missed : r ≡ false → ShownFrom fs k (i + 1)
    shown_missed g = record { same = rw add-one (first_here ∙ rw (← c, g)) }

  pub shown_end : 6 ≤ i → space ≡ shown_at (fields_in fs) k
  unfolding fields_in shown_at
  shown_end h = sym (w.same ∙ ap (λ (gs : List (Option Field)). shown_at (fields_in gs) k) (drop_of_length-le fs {i = i} (omega arith)))

-- ---- the byte at a column, and the line laid
module _ (fs : List page.Field) where
  pub byte_feed : (k : ℕ) → 64 < k → line_feed ≡ byte_at fs k
  unfolding byte_at
  byte_feed k h = rw (lt-leb k 64 h)

  pub byte_shown : (k r : ℕ) → k ≤ 64 → r ≡ shown_at fs k → r ≡ byte_at fs k
  unfolding byte_at
  byte_shown k r h e = rw (le-leb k 64 h) e

  module _ (out : Bytes) where
    pub wrong_size : (length out ≡ 65 → ⊥) → (1 ≡ lay_number out) × (out ≡ laid fs out)
    wrong_size h = let r = lay_refused fs out h in (sym r.0, sym r.1)

    pub right_size : length out ≡ 65 → (line : Bytes) (i : ℕ) → Filled (λ (i : ℕ). byte_at fs (i + 1)) 65 line i → 65 ≤ i
        → (0 ≡ lay_number out) × (line ≡ laid fs out)
    unfolding line_bytes
    right_size h line i w q = let r = lay_done fs out h in (sym r.0, filled_all (λ (i : ℕ). byte_at fs (i + 1)) 65 line i w q ∙ sym r.1)
