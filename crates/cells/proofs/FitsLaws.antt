-- Which values fit a cell, by the place of the cell. A frame (only cells a to a + n changed, and what is put fits) may be
-- widened and composed, holds of no change and of one cell put.
use Rattle.model.proofs.Base.{ℕ, ◌+◌, ◌-◌, ◌*◌, ◌%◌, ◌≤◌, ◌<◌, arith, ◌≡◌, refl, sym, ap, ◌∙◌, Bool, true, false, cond, List}
use Rattle.model.proofs.Base.{length, get_or, set, length-set, get_or-set_same, get_or-set_other, eqb, ltb, leb, eq-eqb, ne_eqb}
use Rattle.model.proofs.Base.{eqb-true, eqb-false, lt-ltb, le-ltb, ltb-true, ltb-false, le-leb}
use lib.Seq.{set_out}
use Rattle.model.proofs.Lists.{cases}
use Rattle.cells.specs.Cells.{core_place, tail_place, holder_place, running_place, closed_place}
use Rattle.cells.specs.Changes.{IsPlace, fits_header, fits_transaction, fits_core, fits_at, AllFit, Frame}

either : (t a b : Bool) → a ≡ true → b ≡ true → cond t a b ≡ true
either true a b p q = p
either false a b p q = q

-- 0 fits everywhere
fits_nothing : (i : ℕ) → fits_transaction i 0 ≡ true
unfolding fits_transaction
fits_nothing i = either (eqb i 0) _ _ refl (either (eqb i 1) _ _ refl (either (ltb i 11) _ _ refl refl))

pub fits_zero : (i : ℕ) → fits_at i 0 ≡ true
unfolding fits_at fits_header fits_core
fits_zero i =
    either (ltb i 7) _ _
    (either (eqb i 0) _ _ refl (either (eqb i 4) _ _ refl (either (eqb i 6) _ _ refl refl)))
    (either (ltb i 23) _ _
    (either (eqb ((i - 7) % 2) 0) _ _ refl refl)
    (either (ltb i 87) _ _ refl
    (either (eqb ((i - 87) % 42) 0) _ _ refl (either (ltb ((i - 87) % 42) 4) _ _ refl (fits_nothing (((i - 87) % 42 - 4) % 19))))))

-- ---- the header
pub fits_phase : (x : ℕ) → x < 3 → fits_at 0 x ≡ true
unfolding fits_at fits_header
fits_phase x h = lt-ltb x 3 h

pub fits_field : (i x : ℕ) → 0 < i → i < 7 → x < 256 → fits_at i x ≡ true
unfolding fits_at fits_header
fits_field i x p q h =
    rw (lt-ltb i 7 q, ne_eqb i 0 (omega arith), lt-ltb x 256 h) (either (eqb i 4) _ _ refl (either (eqb i 6) _ _ refl refl))

pub fits_closes : (x : ℕ) → fits_at 4 x ≡ true
unfolding fits_at fits_header
fits_closes x = refl

pub fits_stores : (x : ℕ) → fits_at 6 x ≡ true
unfolding fits_at fits_header
fits_stores x = refl

-- ---- tails and holders
pub fits_in_number : (c x : ℕ) → c < 8 → fits_at (tail_place c) x ≡ ltb x 4294967296
unfolding fits_at
fits_in_number c x p = rw (le-ltb (7 + 2 * c) 7 (omega arith), lt-ltb (7 + 2 * c) 23 (omega arith), eq-eqb ((7 + 2 * c - 7) % 2) 0 (omega arith))

pub fits_in_position : (c x : ℕ) → c < 8 → fits_at (tail_place c + 1) x ≡ ltb x 256
unfolding fits_at
fits_in_position c x p = rw (le-ltb (7 + 2 * c + 1) 7 (omega arith), lt-ltb (7 + 2 * c + 1) 23 (omega arith), ne_eqb ((7 + 2 * c + 1 - 7) % 2) 0 (omega arith))

pub fits_in_holder : (b x : ℕ) → b < 64 → fits_at (holder_place b) x ≡ leb x 34359738368
unfolding fits_at
fits_in_holder b x p = rw (le-ltb (23 + b) 7 (omega arith), le-ltb (23 + b) 23 (omega arith), lt-ltb (23 + b) 87 (omega arith))

pub fits_number : (c x : ℕ) → c < 8 → x < 4294967296 → fits_at (tail_place c) x ≡ true
fits_number c x p h = fits_in_number c x p ∙ lt-ltb x 4294967296 h

pub fits_position : (c x : ℕ) → c < 8 → x < 256 → fits_at (tail_place c + 1) x ≡ true
fits_position c x p h = fits_in_position c x p ∙ lt-ltb x 256 h

pub fits_holder : (b x : ℕ) → b < 64 → x ≤ 34359738368 → fits_at (holder_place b) x ≡ true
fits_holder b x p h = fits_in_holder b x p ∙ le-leb x 34359738368 h

-- ---- cores and transactions
pub fits_in_core : (c j x : ℕ) → c < 8 → j < 42 → fits_at (core_place c + j) x ≡ fits_core j x
unfolding fits_at
fits_in_core c j x p q =
    let e : (87 + 42 * c + j - 87) % 42 ≡ j = omega arith in
    rw (le-ltb (87 + 42 * c + j) 7 (omega arith), le-ltb (87 + 42 * c + j) 23 (omega arith), le-ltb (87 + 42 * c + j) 87 (omega arith), e)

pub fits_next : (c x : ℕ) → c < 8 → x < 4294967296 → fits_at (core_place c) x ≡ true
unfolding fits_core
fits_next c x p h =
    let z : 87 + 42 * c + 0 ≡ 87 + 42 * c = omega arith in
    ap (λ (i : ℕ). fits_at i x) (sym z) ∙ fits_in_core c 0 x p (omega arith) ∙ lt-ltb x 4294967296 h

pub fits_count : (c j x : ℕ) → c < 8 → 0 < j → j < 4 → x < 256 → fits_at (core_place c + j) x ≡ true
unfolding fits_core
fits_count c j x p q r h =
    fits_in_core c j x p (omega arith) ∙ rw (ne_eqb j 0 (omega arith), lt-ltb j 4 r, lt-ltb x 256 h)

pub running_place_lem : (c : ℕ) → c < 8 → IsPlace (running_place c)
running_place_lem c h = (omega arith, omega arith, let e : (87 + 42 * c + 4 - 87) % 42 ≡ 4 = omega arith in rw e)

pub closed_place_lem : (c : ℕ) → c < 8 → IsPlace (closed_place c)
closed_place_lem c h = (omega arith, omega arith, let e : (87 + 42 * c + 23 - 87) % 42 ≡ 23 = omega arith in rw e)

-- where a transaction stands in its core
low_place : (m : ℕ) → m < 42 → m % 19 ≡ 4 → (4 ≤ m) × (m ≤ 23)
low_place m h r = (omega arith, omega arith)

pub in_place : (m k : ℕ) → m % 19 ≡ 4 → k < 19 → (m + k - 4) % 19 ≡ k
in_place m k r h = omega arith

module _ (a : ℕ) (p : 87 ≤ a) (q : a + 19 ≤ 423) (r : (a - 87) % 42 % 19 ≡ 4) where
  pub fits_at_lem : (k x : ℕ) → k < 19 → fits_at (a + k) x ≡ fits_transaction k x
  unfolding fits_at fits_core
  fits_at_lem k x h =
      let l : (4 ≤ (a - 87) % 42) × ((a - 87) % 42 ≤ 23) = low_place ((a - 87) % 42) (omega arith) r in
      let e : (a + k - 87) % 42 ≡ (a - 87) % 42 + k = omega (arith, l.0, l.1) in
      rw (le-ltb (a + k) 7 (omega arith), le-ltb (a + k) 23 (omega arith), le-ltb (a + k) 87 (omega arith), e, ne_eqb ((a - 87) % 42 + k) 0 (omega (arith, l.0)), le-ltb ((a - 87) % 42 + k) 4 (omega (arith, l.0)), in_place ((a - 87) % 42) k r h)

  pub fits_live : (x : ℕ) → x < 2 → fits_at a x ≡ true
  unfolding fits_transaction
  fits_live x h =
      let z : a + 0 ≡ a = omega arith in
      ap (λ (i : ℕ). fits_at i x) (sym z) ∙ fits_at_lem 0 x (omega arith) ∙ lt-ltb x 2 h

  pub fits_stamp : (x : ℕ) → fits_at (a + 1) x ≡ true
  unfolding fits_transaction
  fits_stamp x = fits_at_lem 1 x (omega arith)

  pub fits_byte : (k x : ℕ) → 2 ≤ k → k < 11 → x < 256 → fits_at (a + k) x ≡ true
  unfolding fits_transaction
  fits_byte k x l m h =
      fits_at_lem k x (omega arith) ∙ rw (ne_eqb k 0 (omega arith), ne_eqb k 1 (omega arith), lt-ltb k 11 m, lt-ltb x 256 h)

  pub fits_highest : (k x : ℕ) → 11 ≤ k → k < 19 → x < 4294967296 → fits_at (a + k) x ≡ true
  unfolding fits_transaction
  fits_highest k x l m h =
      fits_at_lem k x m ∙ rw (ne_eqb k 0 (omega arith), ne_eqb k 1 (omega arith), le-ltb k 11 l, lt-ltb x 4294967296 h)

-- ---- arrays that differ in some cells
pub fits_set : (v : List ℕ) (j x : ℕ) → fits_at j x ≡ true → AllFit v → AllFit (set v j x)
unfolding AllFit
fits_set v j x e f i h =
    cases (eqb i j)
    (λ t. let z : i ≡ j = eqb-true i j t in
    cases (ltb j (length v))
    (λ l. ap (fits_at i) (ap (λ (k : ℕ). get_or (set v j x) k 0) z ∙ get_or-set_same v j x 0 (ltb-true j (length v) l)) ∙ ap (λ (k : ℕ). fits_at k x) z ∙ e)
    (λ l. ap (λ (u : List ℕ). fits_at i (get_or u i 0)) (set_out v j x (ltb-false j (length v) l)) ∙ f i h))
    (λ t. ap (fits_at i) (get_or-set_other v j i x 0 (eqb-false i j t)) ∙ f i h)

module _ (v w : List ℕ) where
  pub frame_wider : (a n b m : ℕ) → Frame v w a n → b ≤ a → a + n ≤ b + m → Frame v w b m
  frame_wider a n b m e p q =
      record { size = e.size; low = λ i h. e.low i (omega arith); high = λ i h. e.high i (omega arith); fits = e.fits }

  pub frame_then : (u : List ℕ) (a n : ℕ) → Frame u v a n → Frame v w a n → Frame u w a n
  frame_then u a n p q =
      record {
        size = q.size ∙ p.size;
        low = λ i h. q.low i h ∙ p.low i h;
        high = λ i h. q.high i h ∙ p.high i h;
        fits = λ f. q.fits (p.fits f);
      }

pub frame_same : (v : List ℕ) (a n : ℕ) → Frame v v a n
frame_same v a n = record { size = refl; low = λ i h. refl; high = λ i h. refl; fits = λ f. f }

pub frame_set : (v : List ℕ) (a n j x : ℕ) → a ≤ j → j < a + n → fits_at j x ≡ true → Frame v (set v j x) a n
frame_set v a n j x p q e =
    record {
      size = length-set v j x;
      low = λ i h. get_or-set_other v j i x 0 (omega arith);
      high = λ i h. get_or-set_other v j i x 0 (omega arith);
      fits = fits_set v j x e;
    }
