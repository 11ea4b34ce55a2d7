-- What stands at an offset of a tape: the tests that refuse it with 2 or 3, the command's data, where the next one stands.
-- Then a run by any card over any world, without its bound: each point starts where the last one ended, in the world that it
-- left, and the stores add up. Offsets grow, so the tape's length bounds the points; after 2 or 3 the tape ends.
use Prim.Native.Nat.{ℕ, zero, suc, ◌+◌, ◌≤◌, ◌<◌, max}
use native.Mathlib.Omega.{arith}
use native.Mathlib.Nat.{le-max_right, max-le}
use mathlib.Core.Path.{◌≡◌, refl, sym, ap, ◌∙◌, subst}
use mathlib.Core.Logic.{◌⊎◌, inl, inr}
use mathlib.Core.Option.{Option, none, some, some-injective}
use mathlib.Core.Bool.{Bool, true, false, true≢false, not, ◌&&◌}
use mathlib.Core.List.{List, [], ◌∷◌, Memᴰ}
use lib.ListN.{length, length-take, length-drop, get_or-eq_default}
use lib.Dec.{ltb, eqb}
use borrow.Author.Tests.{ltb-true, ltb-false, lt-ltb, le-ltb, lt-leb, le-leb, ne_eqb, eqb-false, not-true}
use Rattle.model.specs.Lists.{all, Each}
use Rattle.model.specs.Bytes.{Bytes, part}
use Rattle.model.specs.Shape.{between}
use Rattle.model.specs.Valid.{Order}
use Rattle.model.specs.Command.{World}
use Rattle.model.specs.Tape.{Command, FORMAT, WRITE, CLOSE, STORE, CHECKPOINT, CUT, RECOVER, RETIRE, operand_lengths, operand_length, decoded, Read, whole, unknown, early, is_unknown, is_early, command_byte, operands_at, whole_or_early, read_at, offset_past, next_offset, TapeStep, Point, run_from, run, heard}
use Rattle.model.specs.Step.{step_at_by}
use Rattle.model.proofs.Lists.{cases, all_mem, and_left, and_right}
use Rattle.model.proofs.Command.{refusal_numbers, read_numbers, read_numbers_lem, read_answer, command_decided, decided_refused, first_number}

-- ---- the command of a byte
abbrev pub is_command : Option Command → Bool
is_command none = false
is_command (some k) = true

pub decoded_past : (k : ℕ) (a : Bytes) → 10 ≤ k → decoded k a ≡ none
unfolding decoded
decoded_past k a h =
    rw (
      ne_eqb k 1 (λ e. omega arith),
      ne_eqb k 2 (λ e. omega arith),
      ne_eqb k 3 (λ e. omega arith),
      ne_eqb k 4 (λ e. omega arith),
      ne_eqb k 5 (λ e. omega arith),
      ne_eqb k 6 (λ e. omega arith),
      ne_eqb k 7 (λ e. omega arith),
      ne_eqb k 8 (λ e. omega arith),
      ne_eqb k 9 (λ e. omega arith),
    ) refl

-- a fact of every byte: of 0 to 9 each, and of those past them
pub by_byte : (P : ℕ → Type 0) → Each P (0 ∷ 1 ∷ 2 ∷ 3 ∷ 4 ∷ 5 ∷ 6 ∷ 7 ∷ 8 ∷ 9 ∷ []) → ((k : ℕ) → 10 ≤ k → P k) → (k : ℕ) → P k
by_byte P p past zero = p.0
by_byte P p past (suc zero) = p.1.0
by_byte P p past (suc (suc zero)) = p.1.1.0
by_byte P p past (suc (suc (suc zero))) = p.1.1.1.0
by_byte P p past (suc (suc (suc (suc zero)))) = p.1.1.1.1.0
by_byte P p past (suc (suc (suc (suc (suc zero))))) = p.1.1.1.1.1.0
by_byte P p past (suc (suc (suc (suc (suc (suc zero)))))) = p.1.1.1.1.1.1.0
by_byte P p past (suc (suc (suc (suc (suc (suc (suc zero))))))) = p.1.1.1.1.1.1.1.0
by_byte P p past (suc (suc (suc (suc (suc (suc (suc (suc zero)))))))) = p.1.1.1.1.1.1.1.1.0
by_byte P p past (suc (suc (suc (suc (suc (suc (suc (suc (suc zero))))))))) = p.1.1.1.1.1.1.1.1.1.0
by_byte P p past (suc (suc (suc (suc (suc (suc (suc (suc (suc (suc k)))))))))) = past (suc (suc (suc (suc (suc (suc (suc (suc (suc (suc k)))))))))) (omega arith)

-- bytes 1 to 9 are the commands'
pub decoded_known : (k : ℕ) (a : Bytes) → is_command (decoded k a) ≡ between 1 k 9
unfolding decoded between
decoded_known k a =
    by_byte (λ (k : ℕ). is_command (decoded k a) ≡ between 1 k 9) (refl, (refl, (refl, (refl, (refl, (refl, (refl, (refl, (refl, (refl, tt))))))))))
    (λ k h. rw (decoded_past k a h, le-leb 1 k (omega arith), lt-leb k 9 (omega arith)) refl) k

unknown_none : (k : ℕ) → between 1 k 9 ≡ false → operand_length k ≡ 0
unfolding operand_length operand_lengths between
unknown_none k =
    by_byte (λ (k : ℕ). between 1 k 9 ≡ false → operand_length k ≡ 0)
    (λ h. refl, (λ h. absurd (true≢false h), (λ h. absurd (true≢false h), (λ h. absurd (true≢false h), (λ h. absurd (true≢false h), (λ h. absurd (true≢false h), (λ h. refl, (λ h. refl, (λ h. absurd (true≢false h), (λ h. absurd (true≢false h), tt))))))))))
    (λ k h z. get_or-eq_default operand_lengths 0 h) k

-- a fact of the data that a WRITE has
abbrev pub OfData : (Bytes → Type 0) → Command → Type 0
OfData P (FORMAT c b j) = Unit {0}
OfData P (WRITE task c b o v) = P v
OfData P (CLOSE c) = Unit {0}
OfData P (STORE c) = Unit {0}
OfData P (CHECKPOINT c) = Unit {0}
OfData P CUT = Unit {0}
OfData P RECOVER = Unit {0}
OfData P (RETIRE c) = Unit {0}

OfDataIn : (Bytes → Type 0) → Option Command → Type 0
OfDataIn P none = Unit {0}
OfDataIn P (some k) = OfData P k

decoded_data : (P : Bytes → Type 0) (k : ℕ) (a : Bytes) → (operand_length k ≡ 8 → P (part 4 4 a)) → OfDataIn P (decoded k a)
unfolding decoded OfDataIn operand_length operand_lengths
decoded_data P k a =
    by_byte (λ (k : ℕ). (operand_length k ≡ 8 → P (part 4 4 a)) → OfDataIn P (decoded k a))
    (λ h. tt, (λ h. tt, (λ h. h refl, (λ h. tt, (λ h. tt, (λ h. tt, (λ h. tt, (λ h. tt, (λ h. tt, (λ h. h refl, tt))))))))))
    (λ k h p. rw (decoded_past k a h) tt) k

-- ---- what is read at an offset
unknown_of : (short : Bool) (o : Option Command) → is_unknown (whole_or_early short o) ≡ not (is_command o)
unfolding whole_or_early
unknown_of short none = refl
unknown_of true (some k) = refl
unknown_of false (some k) = refl

early_of : (short : Bool) (o : Option Command) → is_early (whole_or_early short o) ≡ is_command o && short
unfolding whole_or_early
early_of short none = refl
early_of true (some k) = refl
early_of false (some k) = refl

command_in : Read → Option Command
command_in (whole k) = some k
command_in unknown = none
command_in early = none

pub whole_injective : {k m : Command} → whole k ≡ whole m → k ≡ m
unfolding command_in
whole_injective {k} {m} e = some-injective k m (ap command_in e)

whole_of : (short : Bool) (o : Option Command) (k : Command) → whole_or_early short o ≡ whole k → (o ≡ some k) × (short ≡ false)
unfolding whole_or_early command_in
whole_of short none k h = absurd (true≢false (ap is_unknown h))
whole_of true (some x) k h = absurd (true≢false (ap is_early h))
whole_of false (some x) k h = (ap command_in h, refl)

module _ (t : Bytes) (at : ℕ) where
  abbrev short : Bool
  short = ltb (length t) (at + 1 + operand_length (command_byte t at))

  pub read_past : length t ≤ at → read_at t at ≡ early
  unfolding read_at
  read_past h = rw (le-leb (length t) at h)

  read_on : at < length t → read_at t at ≡ whole_or_early short (decoded (command_byte t at) (operands_at t at))
  unfolding read_at
  read_on h = rw (lt-leb (length t) at h)

  -- '2 unknown command byte'
  pub unknown_is : is_unknown (read_at t at) ≡ ltb at (length t) && not (between 1 (command_byte t at) 9)
  unknown_is =
      cases (ltb at (length t))
      (λ h. rw (h, read_on (ltb-true at (length t) h), ← decoded_known (command_byte t at) (operands_at t at)) (unknown_of short (decoded (command_byte t at) (operands_at t at))))
      (λ h. rw (h, read_past (ltb-false at (length t) h)) refl)

  short_known : is_command (decoded (command_byte t at) (operands_at t at)) ≡ false → at < length t → short ≡ false
  short_known h l =
      let e : operand_length (command_byte t at) ≡ 0 = unknown_none (command_byte t at) (sym (decoded_known (command_byte t at) (operands_at t at)) ∙ h) in
      le-ltb (length t) (at + 1 + operand_length (command_byte t at)) (omega (arith, e))

  -- '3 operands end early'
  pub early_is : is_early (read_at t at) ≡ ltb (length t) (at + 1 + operand_length (command_byte t at))
  early_is =
      cases (ltb at (length t))
      (λ h.
      let l : at < length t = ltb-true at (length t) h in
      ap is_early (read_on l) ∙ early_of short (decoded (command_byte t at) (operands_at t at))
      ∙ cases (is_command (decoded (command_byte t at) (operands_at t at)))
      (λ k. rw k refl)
      (λ k. rw k (sym (short_known k l))))
      (λ h. let l : length t ≤ at = ltb-false at (length t) h in ap is_early (read_past l) ∙ sym (lt-ltb (length t) (at + 1 + operand_length (command_byte t at)) (omega arith)))

  -- a whole command: its byte is known and all its operands are there
  pub record WholeAt (k : Command) : Type 0 where
    pub decodes : decoded (command_byte t at) (operands_at t at) ≡ some k
    pub within : at + 1 + operand_length (command_byte t at) ≤ length t

  pub whole_at : (k : Command) → read_at t at ≡ whole k → WholeAt k
  whole_at k e =
      cases (ltb at (length t))
      (λ h.
      let w = whole_of short (decoded (command_byte t at) (operands_at t at)) k (sym (read_on (ltb-true at (length t) h)) ∙ e) in
      record { decodes = w.0; within = ltb-false (length t) (at + 1 + operand_length (command_byte t at)) w.1 })
      (λ h. absurd (true≢false (sym (ap is_early (read_past (ltb-false at (length t) h))) ∙ ap is_early e)))

  pub length_operands : at + 1 + operand_length (command_byte t at) ≤ length t → length (operands_at t at) ≡ operand_length (command_byte t at)
  unfolding operands_at part
  length_operands h = simp (length-take, length-drop) (omega arith)

  -- the data of a WRITE is what stands last among its operands
  pub whole_data : (P : Bytes → Type 0) (k : Command) → read_at t at ≡ whole k → (operand_length (command_byte t at) ≡ 8 → P (part 4 4 (operands_at t at))) → OfData P k
  unfolding OfDataIn
  whole_data P k e p = subst (OfDataIn P) (whole_at k e).decodes (decoded_data P (command_byte t at) (operands_at t at) p)

  pub length_data : (k : Command) → read_at t at ≡ whole k → operand_length (command_byte t at) ≡ 8 → length (part 4 4 (operands_at t at)) ≡ 4
  unfolding part operand_length operand_lengths
  length_data k e eight =
      let l : length (operands_at t at) ≡ 8 = length_operands (whole_at k e).within ∙ eight in
      simp (length-take, length-drop) (omega arith)

-- ---- where the next command stands
pub next_past : (t : Bytes) (at : ℕ) → at < length t → at < next_offset t at
unfolding next_offset offset_past
next_past t at h = go (read_at t at)
  where
    go : (r : Read) → at < offset_past r t at
    go (whole k) = omega arith
    go unknown = omega (arith, le-max_right at (length t))
    go early = omega (arith, le-max_right at (length t))

pub next_within : (t : Bytes) (at : ℕ) → at ≤ length t → next_offset t at ≤ length t
unfolding next_offset offset_past
next_within t at h = go (read_at t at) refl
  where
    go : (r : Read) → read_at t at ≡ r → offset_past r t at ≤ length t
    go (whole k) e = (whole_at t at k e).within
    go unknown e = max-le h (omega arith)
    go early e = max-le h (omega arith)

-- after 2 or 3 the tape ends
pub next_ends : (t : Bytes) (at : ℕ) → at < length t → (is_unknown (read_at t at) ≡ true) ⊎ (is_early (read_at t at) ≡ true) → length t ≡ next_offset t at
unfolding next_offset offset_past
next_ends t at h u = go (read_at t at) u
  where
    top : length t ≡ max at (length t)
    top = let q : max at (length t) ≤ length t = max-le (omega arith) (omega arith) in omega (arith, le-max_right at (length t))

    go : (r : Read) → (is_unknown r ≡ true) ⊎ (is_early r ≡ true) → length t ≡ offset_past r t at
    go (whole k) (inl e) = absurd (true≢false (sym e))
    go (whole k) (inr e) = absurd (true≢false (sym e))
    go unknown e = top
    go early e = top

-- a command that is known and whole
pub read_whole : (t : Bytes) (at : ℕ) → is_unknown (read_at t at) ≡ false → is_early (read_at t at) ≡ false → (k : Command) × (read_at t at ≡ whole k)
read_whole t at u e = go (read_at t at) refl u e
  where
    go : (r : Read) → read_at t at ≡ r → is_unknown r ≡ false → is_early r ≡ false → (k : Command) × (read_at t at ≡ whole k)
    go (whole k) q u e = (k, q)
    go unknown q u e = absurd (true≢false u)
    go early q u e = absurd (true≢false e)

pub next_whole : (t : Bytes) (at : ℕ) (k : Command) → read_at t at ≡ whole k → next_offset t at ≡ at + 1 + operand_length (command_byte t at)
unfolding next_offset offset_past
next_whole t at k e = rw e refl

pub next_known : (t : Bytes) (at : ℕ) → is_unknown (read_at t at) ≡ false → is_early (read_at t at) ≡ false → next_offset t at ≡ at + 1 + operand_length (command_byte t at)
next_known t at u e = let w = read_whole t at u e in next_whole t at w.0 w.1

-- ---- a run by any card over any world
module _ {W : Type 0} where
  -- the point of the command at an offset
  abbrev pub point_at : TapeStep W → Bytes → ℕ → ℕ → W → Point W
  point_at f t at n w = record { offset = at; byte = command_byte t at; read = read_at t at; before = w; outcome = f t at w; stores = n + (f t at w).stores }

  -- these are the points from an offset on, with n stores before and in a world
  pub data Runs (f : TapeStep W) (t : Bytes) : ℕ → ℕ → W → List (Point W) → Type 0 where
    at_end : {at n : ℕ} {w : W} → length t ≤ at → Runs f t at n w []
    one_more : {at n : ℕ} {w : W} {p : Point W} {ps : List (Point W)} → at < length t → p ≡ point_at f t at n w
        → Runs f t (next_offset t at) p.stores p.outcome.world ps → Runs f t at n w (p ∷ ps)

  module _ (f : TapeStep W) (t : Bytes) where
    run_end : (most at n : ℕ) (w : W) → length t ≤ at → run_from most f t at n w ≡ []
    unfolding run_from
    run_end zero at n w h = refl
    run_end (suc most) at n w h = rw (le-ltb at (length t) h, run_from)

    run_more : (most at n : ℕ) (w : W) → at < length t
        → run_from (suc most) f t at n w
        ≡ point_at f t at n w ∷ run_from most f t (next_offset t at) (point_at f t at n w).stores (point_at f t at n w).outcome.world
    unfolding run_from
    run_more most at n w h = rw (lt-ltb at (length t) h, run_from)

    runs_from : (most at n : ℕ) (w : W) → length t ≤ at + most → Runs f t at n w (run_from most f t at n w)
    runs_from zero at n w h = rw (run_end zero at n w (omega arith)) (at_end {at = at} (omega arith))
    runs_from (suc most) at n w h =
        cases (ltb at (length t))
        (λ k. let l : at < length t = ltb-true _ _ k in
        rw (run_more most at n w l)
        (one_more l refl (runs_from most (next_offset t at) _ _ (omega (arith, next_past t at l)))))
        (λ k. let l : length t ≤ at = ltb-false _ _ k in rw (run_end (suc most) at n w l) (at_end l))

    pub run_runs : (w : W) → Runs f t 0 0 w (run f t w)
    unfolding run
    run_runs w = runs_from (length t) 0 0 w (omega arith)

    -- past the end no point follows
    runs_ended : {at n : ℕ} {w : W} {ps : List (Point W)} → Runs f t at n w ps → length t ≤ at → ps ≡ []
    runs_ended (at_end h) k = refl
    runs_ended (one_more l e r) k = absurd (omega arith)

    runs_later : {at n : ℕ} {w : W} {ps : List (Point W)} → Runs f t at n w ps → (m : ℕ) → m ≤ at → Each (λ (p : Point W). m ≤ p.offset) ps
    runs_later (at_end h) m l = tt
    runs_later (one_more {at} {p = p} k e r) m l =
        let o : p.offset ≡ at = ap (λ (p : Point W). p.offset) e in
        (omega arith, runs_later r m (omega (arith, next_past t at k)))

    -- offsets grow
    pub runs_grow : {at n : ℕ} {w : W} {p : Point W} {ps : List (Point W)} → Runs f t at n w (p ∷ ps) → Each (λ (q : Point W). p.offset < q.offset) ps
    runs_grow (one_more {at} {p = p} k e r) =
        let o : p.offset ≡ at = ap (λ (p : Point W). p.offset) e in
        runs_later r (suc p.offset) (omega (arith, next_past t at k))

-- ---- the card's commands: after 2 or 3 the tape ends
neither : (n : ℕ) → not (eqb n 2) && not (eqb n 3) ≡ true → (n ≡ 2) ⊎ (n ≡ 3) → ⊥
neither n h (inl e) = eqb-false n 2 (not-true (eqb n 2) (and_left (not (eqb n 2)) (not (eqb n 3)) h)) e
neither n h (inr e) = eqb-false n 3 (not-true (eqb n 3) (and_right (not (eqb n 2)) (not (eqb n 3)) h)) e

-- no command has a condition of these numbers
numbers_own : (k : Command) → all (λ (n : ℕ). not (eqb n 2) && not (eqb n 3)) (refusal_numbers k) ≡ true
unfolding refusal_numbers all
numbers_own (FORMAT c b j) = refl
numbers_own (WRITE task c b o v) = refl
numbers_own (CLOSE c) = refl
numbers_own (STORE c) = refl
numbers_own (CHECKPOINT c) = refl
numbers_own CUT = refl
numbers_own RECOVER = refl
numbers_own (RETIRE c) = refl

-- what a service book or ledger hears keeps what each command with its answer keeps
pub heard_keeps : {S : Type 0} (f : Command → ℕ → S → S) (P : S → Type 0) → ((k : Command) (n : ℕ) (s : S) → P s → P (f k n s)) → (r : Read) (n : ℕ) (s : S) → P s → P (heard f r n s)
unfolding heard
heard_keeps f P h (whole k) n s p = h k n s p
heard_keeps f P h unknown n s p = p
heard_keeps f P h early n s p = p

module _ (o : Order) where
  answer_ends : (t : Bytes) (at : ℕ) (w : World) (n : ℕ) → (step_at_by o t at w).answer ≡ n → (n ≡ 2) ⊎ (n ≡ 3) → length t ≤ next_offset t at
  unfolding next_offset offset_past read_numbers
  answer_ends t at w n h two = go (read_at t at) refl
    where
      p : 0 < n
      p = elim two [ inl e ↦ omega arith | inr e ↦ omega arith ]

      among : Memᴰ n (read_numbers (read_at t at))
      among =
          rw (h, read_numbers_lem o (read_at t at) w) at (first_number (decided_refused (command_decided o t at w) (read_answer o (read_at t at) w) (rw h p)).0)

      go : (r : Read) → read_at t at ≡ r → length t ≤ offset_past r t at
      go (whole k) e = absurd (neither n (all_mem _ (refusal_numbers k) (numbers_own k) (rw e at among)) two)
      go unknown e = le-max_right at (length t)
      go early e = le-max_right at (length t)

  pub tape_ends : (t : Bytes) {at n : ℕ} {w : World} {p : Point World} {ps : List (Point World)} → Runs (step_at_by o) t at n w (p ∷ ps)
      → (p.outcome.answer ≡ 2) ⊎ (p.outcome.answer ≡ 3) → ps ≡ []
  tape_ends t (one_more {at} {w = w} {p = p} h e r) two =
      runs_ended (step_at_by o) t r (answer_ends t at w p.outcome.answer (ap (λ (p : Point World). p.outcome.answer) (sym e)) two)
