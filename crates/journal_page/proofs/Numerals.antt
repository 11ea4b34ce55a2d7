-- Numbers set right, as the journal page shows them: which digits and blanks, and that the number is read back from them.
use native.Mathlib.Nat.{div-one, div-eq_of_lt, div-add-mod', div-div-eq-div-mul, le-div_iff_mul-le, one-le-pow, pow-suc}
use mathlib.Core.Bool.{and-false}
use Rattle.model.specs.JournalPage.{space, digit_at, numeral}
use Rattle.model.proofs.Base.{ℕ, zero, suc, ◌+◌, ◌-◌, ◌*◌, ◌/◌, ◌%◌, ◌^◌, ◌≤◌, ◌<◌, arith, dec_lt, ◌≡◌, refl, sym, ap, ap₂, ◌∙◌, ◌≢◌}
use Rattle.model.proofs.Base.{cond, List, [], ◌∷◌, ◌++◌, map, map-append, eqb, ne_eqb, below, Bytes}
use Rattle.model.proofs.Lists.{map_below}

power_positive : (k : ℕ) → 0 < 10 ^ k
power_positive k = omega (arith, one-le-pow k 10 (omega arith))

-- a digit by what is left of the number at its place: a blank where nothing is, unless the place is the last one
pub digit_blank : (n place : ℕ) → place ≢ 0 → n / 10 ^ place ≡ 0 → digit_at n place ≡ space
unfolding digit_at
digit_blank n place p h = rw (h, ne_eqb place 0 p) refl

pub digit_left : (n place : ℕ) → n / 10 ^ place ≢ 0 → digit_at n place ≡ 0x30 + n / 10 ^ place % 10
unfolding digit_at
digit_left n place h = rw (ne_eqb (n / 10 ^ place) 0 h) refl

-- the last digit of a number always stands; each one above it where the number reaches so far, else a blank
pub digit_last : (n : ℕ) → digit_at n 0 ≡ 0x30 + n % 10
unfolding digit_at
digit_last n = rw (div-one n, and-false (eqb n 0)) refl

pub digit_shown : (n place : ℕ) → 10 ^ place ≤ n → digit_at n place ≡ 0x30 + n / 10 ^ place % 10
digit_shown n place h =
    let q : 1 ≤ n / 10 ^ place = (le-div_iff_mul-le {x = 1} (power_positive place)).1 (omega arith) in
    digit_left n place (λ e. omega arith)

pub digit_none : (n place : ℕ) → 0 < place → n < 10 ^ place → digit_at n place ≡ space
digit_none n place p h = digit_blank n place (λ e. omega arith) (div-eq_of_lt h)

-- a number set right in so many columns
abbrev pub set_right : ℕ → ℕ → Bytes
set_right width n = (numeral 0 width n).text

-- the number that digits give, read on from acc; blanks count for nothing
abbrev pub read_one : ℕ → ℕ → ℕ
read_one acc b = cond (eqb b space) acc (acc * 10 + (b - 0x30))

unfoldable pub read_digits : ℕ → Bytes → ℕ
read_digits acc [] = acc
read_digits acc (b ∷ bs) = read_digits (read_one acc b) bs

map_first : {A : Type 0} (f : ℕ → A) (n : ℕ) → map f (below (suc n)) ≡ f 0 ∷ map (λ (i : ℕ). f (suc i)) (below n)
unfolding below
map_first f zero = refl
map_first f (suc n) =
    map-append f (below (suc n)) (suc n ∷ [])
    ∙ ap (λ (l : List _). l ++ (f (suc n) ∷ [])) (map_first f n)
    ∙ ap (λ (l : List _). f 0 ∷ l) (sym (map-append (λ (i : ℕ). f (suc i)) (below n) (n ∷ [])))

-- set right in one column more: the digit of that place in front
pub set_right_more : (w n : ℕ) → set_right (suc w) n ≡ digit_at n w ∷ set_right w n
unfolding numeral
set_right_more w n =
    let place : (i : ℕ) → suc w - (suc i + 1) ≡ w - (i + 1) = λ i. omega arith in
    map_first (λ (i : ℕ). digit_at n (suc w - (i + 1))) w
    ∙ ap₂ ◌∷◌ (ap (digit_at n) (omega arith))
    (map_below (λ (i : ℕ). digit_at n (suc w - (suc i + 1))) (λ (i : ℕ). digit_at n (w - (i + 1))) w (λ i h. ap (digit_at n) (place i)))

shown_step : (n w : ℕ) → digit_at n w ≡ 0x30 + n / 10 ^ w % 10 → read_one (n / 10 ^ suc w) (digit_at n w) ≡ n / 10 ^ w
shown_step n w h =
    let q = n / 10 ^ w in
    let up : n / 10 ^ suc w ≡ q / 10 = rw (pow-suc 10 w) (sym (div-div-eq-div-mul n (10 ^ w) 10)) in
    rw (h, ne_eqb (0x30 + q % 10) space (λ e. omega arith), up) (omega (arith, div-add-mod' q 10))

blank_step : (n w : ℕ) → digit_at n w ≡ space → n < 10 ^ w → read_one (n / 10 ^ suc w) (digit_at n w) ≡ n / 10 ^ w
blank_step n w h l =
    let up : n / 10 ^ suc w ≡ n / 10 ^ w / 10 = rw (pow-suc 10 w) (sym (div-div-eq-div-mul n (10 ^ w) 10)) in
    rw (h, up, div-eq_of_lt l) refl

digit_step : (n w : ℕ) → read_one (n / 10 ^ suc w) (digit_at n w) ≡ n / 10 ^ w
digit_step n zero = shown_step n zero (digit_last n ∙ rw (div-one n) refl)
digit_step n (suc w) =
    elim (dec_lt n (10 ^ suc w)) [
      | yes lt ↦ blank_step n (suc w) (digit_none n (suc w) (omega arith) lt) lt
      | no ge ↦ shown_step n (suc w) (digit_shown n (suc w) (omega arith))
    ]

read_more : (acc b : ℕ) (bs : Bytes) → read_digits acc (b ∷ bs) ≡ read_digits (read_one acc b) bs
unfolding read_digits
read_more acc b bs = refl

set_right_upper : (w n : ℕ) → read_digits (n / 10 ^ w) (set_right w n) ≡ n
set_right_upper zero n = unfold read_digits numeral below in div-one n
set_right_upper (suc w) n =
    ap (read_digits (n / 10 ^ suc w)) (set_right_more w n)
    ∙ read_more (n / 10 ^ suc w) (digit_at n w) (set_right w n)
    ∙ ap (λ (acc : ℕ). read_digits acc (set_right w n)) (digit_step n w)
    ∙ set_right_upper w n

-- a number that its columns hold is read back from them
pub set_right_value : (w n : ℕ) → n < 10 ^ w → read_digits 0 (set_right w n) ≡ n
set_right_value w n h = rw (div-eq_of_lt h) at (set_right_upper w n)
