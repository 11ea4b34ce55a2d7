-- The count of stores after a command, and what a counted command leaves.
use Prim.Native.Nat.{ℕ, ◌+◌, ◌-◌, ◌≤◌, ◌<◌, min}
use native.Mathlib.Omega.{arith}
use mathlib.Core.Path.{◌≡◌, refl, sym, ap, ◌∙◌, subst}
use mathlib.Core.List.{List}
use lib.ListN.{length, set, length-set}
use lib.Seq.{get_or-set_same}
use Rattle.model.specs.Bytes.{Bytes}
use Rattle.model.specs.Command.{World, Outcome}
use Rattle.model.proofs.Command.{command_decided, decided_refused, read_answer}
use Rattle.cells.specs.Cells.{card_in, stores_in, Exact, world_in, world}
use Rattle.cells.specs.Answer.{stores_of, Meets}
use Rattle.cells.proofs.FitsLaws.{fits_set, fits_stores, frame_set}
use Rattle.cells.proofs.CoreLaws.{stores_unseen}
use Rattle.cells.proofs.ExactLaws.{fits_exact, exact_fits}
use Rattle.command.specs.Counting.{counted, Performs}
use Rattle.command.specs.Counted.{counted_in}
use Rattle.model.specs.Tape.{read_at}
use Rattle.model.specs.Valid.{in_sequence}
use Rattle.model.specs.Step.{step_at}
use Rattle.model.specs.declared.Card.{Card}
use Rattle.std.specs.Prelude.{Result, Ok, Err}
use Rattle.model.specs.Refusal.{answer_of}
use Rattle.model.specs.declared.Refusal.{Refusal}
use Rattle.model.proofs.RefusalNumbers.{number_not_0}

-- ---- the count
pub counted_at : (n k a r : ℕ) → n < 18446744073709551616 → a ≡ k → r ≡ min (n + a) 18446744073709551615 → r ≡ counted n k
unfolding counted
counted_at n k a r l h e = omega (arith, h, e)

pub counted_sum : (n k : ℕ) → k ≤ 18446744073709551615 - n → n < 18446744073709551616 → n + k ≡ counted n k
unfolding counted
counted_sum n k h l = omega arith

pub counted_none : (n : ℕ) → n ≡ counted n 0
unfolding counted
counted_none n = omega arith

pub counted_more : (n a b : ℕ) → counted (counted n a) b ≡ counted n (a + b)
unfolding counted
counted_more n a b = omega arith

-- ---- the counted command
-- a refusal stores nothing
none_stored : (t : Bytes) (at : ℕ) (w : World) → ((step_at t at w).answer ≡ 0 → ⊥) → (step_at t at w).stores ≡ 0
none_stored t at w h =
    let p : 0 < (step_at t at w).answer = omega (arith, h) in
    ap (λ (o : Outcome World). o.stores) (decided_refused (command_decided in_sequence t at w) (read_answer in_sequence (read_at t at) w) p).1

module _ (t : Bytes) (at : ℕ) (v : List ℕ) (l : length v ≡ 423) (d₀ m₀ : Bytes) (n : ℕ) (e : n ≡ stores_in v) (u : List ℕ) (d m : Bytes) (a : Result ℕ Refusal)
    (f : Meets (step_at t at (world_in v d₀ m₀)) v u d m a) (w : List ℕ) (q : w ≡ counted_in u n a) where
  abbrev o : Outcome World
  o = step_at t at (world_in v d₀ m₀)

  number_same : answer_of a ≡ o.answer
  number_same = ap (λ (o : Outcome World). o.answer) f.outcome

  stores_same : stores_of a ≡ o.stores
  stores_same = ap (λ (o : Outcome World). o.stores) f.outcome

  world_same : world_in u d m ≡ o.world
  world_same = ap (λ (o : Outcome World). o.world) f.outcome

  -- refused
  module _ (r : Refusal) (z : a ≡ Err r) where
    refused_lem : answer_of a ≡ 0 → ⊥
    refused_lem y = number_not_0 r (sym (ap answer_of z) ∙ y)

    same_cells : w ≡ v
    same_cells = q ∙ ap (counted_in u n) z ∙ f.refused refused_lem

    refused_performs : Performs o v w d m (answer_of a)
    refused_performs =
        record {
          answer = number_same;
          world = ap (λ (c : List ℕ). world_in c d m) (same_cells ∙ sym (f.refused refused_lem)) ∙ world_same;
          stores =
              ap stores_in same_cells ∙ sym e ∙ counted_none n ∙ ap (counted n) (sym (none_stored t at (world_in v d₀ m₀) (λ y. refused_lem (number_same ∙ y)))) ∙ ap (λ (k : ℕ). counted k o.stores) e;
          exact = λ x. rw same_cells x;
          refused = λ y. same_cells;
        }

  -- carried out
  module _ (k : ℕ) (z : a ≡ Ok k) where
    put : w ≡ set u 6 (counted n k)
    put = q ∙ ap (counted_in u n) z

    unseen : card_in (set u 6 (counted n k)) ≡ card_in u
    unseen = stores_unseen u (set u 6 (counted n k)) (frame_set u 6 1 6 (counted n k) (omega arith) (omega arith) (fits_stores (counted n k)))

    done_performs : Performs o v w d m (answer_of a)
    done_performs =
        record {
          answer = number_same;
          world = ap (λ (c : List ℕ). world_in c d m) put ∙ ap (λ (x : Card). world x d m) unseen ∙ world_same;
          stores =
              ap stores_in put
              ∙ get_or-set_same u 6 (counted n k) 0 (omega (arith, f.size))
              ∙ ap (counted n) (sym (ap stores_of z) ∙ stores_same) ∙ ap (λ (k : ℕ). counted k o.stores) e;
          exact = λ x.
              subst Exact (sym put)
              (fits_exact (set u 6 (counted n k)) (length-set u 6 (counted n k) ∙ f.size)
              (fits_set u 6 (counted n k) (fits_stores (counted n k)) (f.fits (exact_fits v x))));
          refused = λ y. absurd (y (ap answer_of z));
        }

  pub performs : Performs o v w d m (answer_of a)
  performs = elim a as (λ (b : Result ℕ Refusal). a ≡ b → Performs o v w d m (answer_of a)) [ Ok k ↦ done_performs k | Err r ↦ refused_performs r ] refl
