-- A card without the cap on tail numbers fails demand 2, on a tape that is too long to be computed.
-- Each RECOVER and CUT of an empty card raises its tail number by one. The demands themselves fix every answer and every
-- ledger on the way; only the last RECOVER is looked at in the card: it stores 4,000,000,002 where 4,000,000,001 is due.
use Prim.Native.Nat.{ℕ, zero, suc, ◌+◌, ◌-◌, min, ◌<◌}
use native.Mathlib.Omega.{arith}
use mathlib.Core.Path.{◌≡◌, refl, sym, ap, ◌∙◌, subst}
use mathlib.Core.Option.{some}
use mathlib.Core.Bool.{Bool, true}
use mathlib.Core.List.{List, [], ◌∷◌}
use lib.ListN.{length, get_or, drop, length-drop, length-map}
use lib.Seq.{get_or-drop, drop-drop}
use borrow.Author.Tests.{lt-leb, le-ltb}
use Rattle.model.specs.Valid.{in_sequence}
use Rattle.model.specs.Lists.{all, below}
use Rattle.model.specs.Bytes.{Bytes, part, store, zero_memory}
use Rattle.model.specs.Card.{new_tail, is_blank, is_up}
use Rattle.model.specs.Layout.{master_words, master_block}
use Rattle.model.specs.Journal.{journal}
use Rattle.model.specs.Command.{World, Outcome, refusal, unless, wrong_length}
use Rattle.model.specs.Recovery.{shape_on, tail_on, layout_on, recover_conditions}
use Rattle.model.specs.Tape.{Command, CUT, RECOVER, Read, whole, TapeStep, Point, run, decoded, operand_length, command_byte, operands_at, whole_or_early, read_at, obeyed, command_at, offset_past, next_offset, heard}
use Rattle.model.specs.Limits.{max_number}
use Rattle.model.specs.declared.Shape.{Shape}
use Rattle.model.specs.declared.Phase.TheVariants.{Down}
use Rattle.model.specs.declared.Tail.{Tail}
use Rattle.model.specs.declared.CommitLayout.TheVariants.{Numbers}
use Rattle.model.proofs.Command.{unless_done, unless_refused}
use Rattle.model.proofs.Tape.{point_at, Runs, at_end, one_more, run_runs}
use Rattle.crash.specs.Book.{empty_book}
use Rattle.crash.specs.Ledger.{Ledger, fresh_ledger, cut_ledger, carried_out, entered, stored_since, disk_after, refusals_of, answer_of}
use Rattle.crash.specs.Claims.{IsBytes, Start, from_down, start_world, start_ledger, StartFits, entered_point, Between, PointKept, LedgerKept, JournalsRead, Demands}
use Rattle.crash.proofs.Books.Tests.{clash}
use Rattle.refuted.specs.Parts.{on_tape, recover_step_by, own_left, own_image, tail_by}
use Rattle.refuted.specs.Wrong.{cap_missing}
use Rattle.refuted.proofs.Tapes.{tests}

-- ---- the tape
unfoldable pub rounds : ℕ → Bytes
rounds zero = []
rounds (suc n) = 7 ∷ 6 ∷ rounds n

rounds_bytes : (n : ℕ) → IsBytes (rounds n)
unfolding rounds all
rounds_bytes zero = refl
rounds_bytes (suc n) = rounds_bytes n

-- ---- a command without operands, as the next one of a run that meets the demands
module _ (f : TapeStep World) (k : Command) (b : ℕ) (is : decoded b [] ≡ some k) (bare : operand_length b ≡ 0) (t : Bytes) (at : ℕ) (ks : Bytes) (left : drop at t ≡ b ∷ ks) where
  on_tape_lem : at < length t
  on_tape_lem = let e : length t - at ≡ suc (length ks) = sym (length-drop at t) ∙ ap length left in omega arith

  byte_is : command_byte t at ≡ b
  unfolding command_byte
  byte_is = let e : at + 0 ≡ at = omega arith in sym (ap (λ (i : ℕ). get_or t i 0) e) ∙ sym (get_or-drop at t 0 0) ∙ ap (λ (s : Bytes). get_or s 0 0) left

  left_next : drop (at + 1) t ≡ ks
  left_next = sym (drop-drop 1 at t) ∙ ap (drop 1) left

  no_operands : operands_at t at ≡ []
  unfolding operands_at part
  no_operands = rw (byte_is, bare)

  read_is : read_at t at ≡ whole k
  unfolding read_at whole_or_early
  read_is = rw (lt-leb (length t) at on_tape_lem, no_operands, byte_is, bare, is, le-ltb (length t) (at + 1 + 0) (omega (arith, on_tape_lem))) refl

  next_is : next_offset t at ≡ at + 1
  unfolding next_offset offset_past
  next_is = let e : at + 1 + 0 ≡ at + 1 = omega arith in rw (read_is, byte_is, bare) e

  -- it is answered 0; the rest of the run, and of the demands
  module _ (n : ℕ) (w : World) (l : Ledger) where
    abbrev p : Point World
    p = point_at f t at n w

    record DoneThen : Type 0 where
      kept : PointKept l w p
      answer : p.outcome.answer ≡ 0
      rest : List (Point World)
      runs : Runs f t (at + 1) p.stores p.outcome.world rest
      ledger : LedgerKept (carried_out k l) p.outcome.world rest

    answered : PointKept l w p → refusal (refusals_of k l) ≡ 0 → p.outcome.answer ≡ 0
    unfolding answer_of
    answered h z = h.answer ∙ ap (λ (r : Read). answer_of r l) read_is ∙ z

    entered_is : p.outcome.answer ≡ 0 → entered_point p l ≡ carried_out k l
    unfolding entered_point heard entered
    entered_is a = ap (λ (r : Read). heard entered r p.outcome.answer l) read_is ∙ ap (λ (n : ℕ). entered k n l) a

    done_then : (ps : List (Point World)) → Runs f t at n w ps → LedgerKept l w ps → refusal (refusals_of k l) ≡ 0 → DoneThen
    done_then [] (at_end h) m z = absurd (omega (arith, on_tape_lem))
    done_then (q ∷ qs) (one_more h e r) m z =
        let r₁ : Runs f t (next_offset t at) p.stores p.outcome.world qs = subst (λ (q : Point World). Runs f t (next_offset t at) q.stores q.outcome.world qs) e r in
        let m₁ : LedgerKept l w (p ∷ qs) = subst (λ (q : Point World). LedgerKept l w (q ∷ qs)) e m in
        let a = answered m₁.0 z in
        record {
          kept = m₁.0;
          answer = a;
          rest = qs;
          runs = subst (λ (i : ℕ). Runs f t i p.stores p.outcome.world qs) next_is r₁;
          ledger = subst (λ (l : Ledger). LedgerKept l p.outcome.world qs) (entered_is a) m₁.1;
        }

between_first : (l : Ledger) (w : World) (ps : List (Point World)) → LedgerKept l w ps → Between l w
between_first l w [] h = h
between_first l w (p ∷ ps) h = h.0.between

-- ---- the ledgers on the way
abbrev small : Shape
small = record { cores = 1; blocks = 1; journal = 4 }

abbrev down_by : (ℕ → ℕ) → Ledger
down_by first = cut_ledger (fresh_ledger in_sequence small [] first)

abbrev raised : (ℕ → ℕ) → ℕ → ℕ
raised first c = min (first c + 1) (suc max_number)

is_seven : decoded 7 [] ≡ some RECOVER
unfolding tests
is_seven = refl

is_six : decoded 6 [] ≡ some CUT
unfolding tests
is_six = refl

bare_seven : operand_length 7 ≡ 0
unfolding tests
bare_seven = refl

bare_six : operand_length 6 ≡ 0
unfolding tests
bare_six = refl

recover_answer : (first : ℕ → ℕ) → refusal (refusals_of RECOVER (down_by first)) ≡ 0
unfolding tests
recover_answer first = refl

recover_enters : (first : ℕ → ℕ) → carried_out RECOVER (down_by first) ≡ fresh_ledger in_sequence small [] (raised first)
unfolding tests
recover_enters first = refl

recover_stores : (first : ℕ → ℕ) (d : Bytes) → disk_after RECOVER (down_by first) d ≡ store d 0 (master_block Numbers small (λ (c : ℕ). new_tail (raised first c) 0))
unfolding tests
recover_stores first d = refl

cut_answer : (first : ℕ → ℕ) → refusal (refusals_of CUT (fresh_ledger in_sequence small [] first)) ≡ 0
unfolding tests
cut_answer first = refl

cut_enters : (first : ℕ → ℕ) → carried_out CUT (fresh_ledger in_sequence small [] first) ≡ down_by first
unfolding tests
cut_enters first = refl

none_stored : (first : ℕ → ℕ) → stored_since (down_by first) 0 ≡ []
unfolding tests
none_stored first = let e : first 0 - first 0 ≡ 0 = omega arith in rw e refl

-- ---- the last RECOVER
done_of : (ts : List (Bool × ℕ)) (w : World) (o : Outcome World) → (unless ts w o).answer ≡ 0 → unless ts w o ≡ o
done_of ts w o h = go (refusal ts) refl
  where
    go : (n : ℕ) → refusal ts ≡ n → unless ts w o ≡ o
    go zero e = unless_done ts w o e
    go (suc n) e = let z : 0 ≡ suc n = sym h ∙ ap (λ (o : Outcome World). o.answer) (unless_refused ts w o (suc n) e (omega arith)) in absurd (omega arith)

abbrev unbounded : ℕ → ℕ → ℕ
unbounded t n = t + (n + 1)

-- a master of one core has one tail
one_tail : (f g : ℕ → Tail) → f 0 ≡ g 0 → master_block Numbers small f ≡ master_block Numbers small g
unfolding master_block master_words below
one_tail f g e = ap (λ (t : Tail). master_block Numbers small (λ (c : ℕ). t)) e

module _ (first : ℕ → ℕ) (top : first 0 ≡ suc max_number) (w : World) (o : Outcome World) where
  -- the master that is due, and the one that this card stores
  due : master_block Numbers small (λ (c : ℕ). new_tail (raised first c) 0) ≡ master_block Numbers small (λ (c : ℕ). new_tail 4000000001 0)
  due = one_tail _ _ (ap (λ (n : ℕ). new_tail n 0) (rw top refl))

  stored_instead : JournalsRead (down_by first) w.disk → master_block Numbers (shape_on w.disk) (tail_by unbounded w.disk) ≡ master_block Numbers small (λ (c : ℕ). new_tail 4000000002 0)
  unfolding cut_ledger fresh_ledger empty_book
  stored_instead r =
      let d = w.disk in
      let n : (tail_on d 0).number ≡ 4000000001 = r.tails 0 (omega arith) ∙ top in
      let s : shape_on d ≡ small = r.shape in
      let j : length (journal (layout_on d) small d 0 (tail_on d 0) 4) ≡ 0 = sym (length-map (journal (layout_on d) small d 0 (tail_on d 0) 4) _) ∙ ap length (r.records 0 (omega arith) ∙ none_stored first) in
      rw s (one_tail _ _ (rw (s, j, n) refl))

  differ : (d : Bytes) → store d 0 (master_block Numbers small (λ (c : ℕ). new_tail 4000000002 0)) ≡ store d 0 (master_block Numbers small (λ (c : ℕ). new_tail 4000000001 0)) → ⊥
  unfolding tests
  differ d e = let z : ◌≡◌ {A = ℕ} 2 1 = ap (λ (s : Bytes). get_or s 27 0) e in omega arith

  module _ (k : o.world.disk ≡ disk_after RECOVER (down_by first) w.disk) (up : is_up o.world.card.phase ≡ true) (phase : w.card.phase ≡ Down)
      (r : JournalsRead (down_by first) w.disk) where
    by_left : (bs : List ℕ) → o ≡ recover_step_by own_image (tail_by unbounded) bs w → ⊥
    by_left [] e =
        differ w.disk
        (ap (store w.disk 0) (sym (stored_instead r)) ∙ sym (ap (λ (o : Outcome World). o.world.disk) e) ∙ k ∙ recover_stores first w.disk
        ∙ ap (store w.disk 0) due)
    by_left (b ∷ bs) e = clash up (ap (λ (o : Outcome World). is_up o.world.card.phase) e ∙ ap is_up phase)

-- ---- by the rounds that are left
abbrev card : TapeStep World
card = on_tape cap_missing

module _ (t : Bytes) where
  abbrev Refuted : ℕ → Type 0
  Refuted k =
      (at n : ℕ) (first : ℕ → ℕ) (w : World) (ps : List (Point World)) → first 0 + k ≡ suc max_number → drop at t ≡ rounds (suc k)
      → Runs card t at n w ps → LedgerKept (down_by first) w ps → ⊥

  refuted_last : Refuted 0
  unfolding rounds command_at obeyed cut_ledger fresh_ledger
  refuted_last at n first w ps sum left runs kept =
      let x = done_then card RECOVER 7 is_seven bare_seven t at (6 ∷ []) left n w (down_by first) ps runs kept (recover_answer first) in
      let r : read_at t at ≡ whole RECOVER = read_is card RECOVER 7 is_seven bare_seven t at (6 ∷ []) left in
      let o = card t at w in
      let phase : w.card.phase ≡ Down = x.kept.between.phase in
      let after : Between (fresh_ledger in_sequence small [] (raised first)) o.world =
      subst (λ (l : Ledger). Between l o.world) (recover_enters first) (between_first _ _ x.rest x.ledger) in
      let reached : o ≡ cap_missing RECOVER w = done_of ((wrong_length w, 1) ∷ []) w (obeyed cap_missing (read_at t at) w) x.answer ∙ ap (λ (r : Read). obeyed cap_missing r w) r in
      let last : o ≡ recover_step_by own_image (tail_by unbounded) (own_left w) w =
      reached ∙ done_of (recover_conditions w) w _ (sym (ap (λ (o : Outcome World). o.answer) reached) ∙ x.answer) in
      by_left first (omega arith) w o
      (x.kept.done RECOVER r x.answer).disk
      (ap is_up after.phase)
      phase
      (x.kept.between.journals (ap is_blank phase))
      (own_left w) last

  refuted_more : (k : ℕ) → Refuted k → Refuted (suc k)
  unfolding rounds
  refuted_more k ih at n first w ps sum left runs kept =
      let ks = rounds (suc k) in
      let x = done_then card RECOVER 7 is_seven bare_seven t at (6 ∷ ks) left n w (down_by first) ps runs kept (recover_answer first) in
      let left₁ = left_next card RECOVER 7 is_seven bare_seven t at (6 ∷ ks) left in
      let p = point_at card t at n w in
      let y = done_then card CUT 6 is_six bare_six t (at + 1) ks left₁ p.stores p.outcome.world (fresh_ledger in_sequence small [] (raised first)) x.rest x.runs
      (subst (λ (l : Ledger). LedgerKept l p.outcome.world x.rest) (recover_enters first) x.ledger) (cut_answer (raised first)) in
      let q = point_at card t (at + 1) p.stores p.outcome.world in
      ih (at + 1 + 1) q.stores (raised first) q.outcome.world y.rest (omega arith)
      (left_next card CUT 6 is_six bare_six t (at + 1) ks left₁) y.runs
      (subst (λ (l : Ledger). LedgerKept l q.outcome.world y.rest) (cut_enters (raised first)) y.ledger)

  refuted : (k : ℕ) → Refuted k
  refuted zero = refuted_last
  refuted (suc k) = refuted_more k (refuted k)

abbrev empty_small : Start
empty_small = from_down Numbers small zero_memory

small_fits : StartFits empty_small
unfolding tests
small_fits = record { stated = (refl, refl); disk = refl; memory = refl }

pub cap_missing_lem : Demands in_sequence (on_tape cap_missing) → ⊥
unfolding start_ledger
cap_missing_lem h =
    let t = rounds (suc max_number) in
    let w = start_world empty_small in
    refuted t max_number 0 0 (λ (c : ℕ). 1) w (run card t w) refl refl (run_runs card t w) (h t (rounds_bytes (suc max_number)) empty_small small_fits)
