-- The plan of any card value, disk and memory.
use Prim.Native.Nat.{ℕ, zero, suc, ◌≤◌}
use native.Mathlib.Omega.{arith}
use mathlib.Core.Path.{◌≡◌, refl, ap}
use mathlib.Core.List.{[]}
use mathlib.Core.Bool.{true, false, false≢true}
use Rattle.model.specs.Card.{is_blank, is_up, is_down}
use Rattle.model.specs.Command.{World, refusal, not_up, wrong_length}
use Rattle.model.specs.Lists.{total}
use Rattle.model.specs.declared.Phase.{Phase}
use Rattle.model.specs.declared.Phase.TheVariants.{Blank, Up, Down}
use Rattle.planner.specs.Plan.{Planned, most_commands, plan, plan_for, no_plan, unretired_now}
use Rattle.planner.specs.Met.{PlanAnswers}
use Rattle.planner.proofs.Transactions.Figures.{bound}

pub plan_refused : (w : World) (n : ℕ) → refusal (not_up w []) ≡ suc n → plan w ≡ no_plan (suc n)
unfolding plan
plan_refused w n e = rw (e, plan) refl

pub plan_is : (w : World) → refusal (not_up w []) ≡ 0 → plan w ≡ plan_for (unretired_now w)
unfolding plan
plan_is w e = rw (e, plan) refl

module _ (w : World) (long : wrong_length w ≡ false) where
  blank_plan : w.card.phase ≡ Blank → plan w ≡ no_plan 20
  unfolding refusal
  blank_plan p = plan_refused w 19 (rw (long, p) refl)

  down_plan : w.card.phase ≡ Down → plan w ≡ no_plan 22
  unfolding refusal
  down_plan p = plan_refused w 21 (rw (long, p) refl)

  pub up_plan : w.card.phase ≡ Up → plan w ≡ plan_for (unretired_now w)
  unfolding refusal
  up_plan p = plan_is w (rw (long, p) refl)

-- a refusal of each kind
wrong_plan : (w : World) → wrong_length w ≡ true → plan w ≡ no_plan 1
unfolding refusal
wrong_plan w e = plan_refused w 0 (rw e refl)

phase_blank : (p : Phase) → is_blank p ≡ true → p ≡ Blank
phase_blank Blank e = refl
phase_blank Up e = absurd (false≢true e)
phase_blank Down e = absurd (false≢true e)

phase_up : (p : Phase) → is_up p ≡ true → p ≡ Up
phase_up Blank e = absurd (false≢true e)
phase_up Up e = refl
phase_up Down e = absurd (false≢true e)

phase_down : (p : Phase) → is_down p ≡ true → p ≡ Down
phase_down Blank e = absurd (false≢true e)
phase_down Up e = absurd (false≢true e)
phase_down Down e = refl

plan_bounded : (w : World) → (plan w).commands ≤ total most_commands (unretired_now w)
unfolding plan_for
plan_bounded w = go (refusal (not_up w [])) refl
  where
    go : (n : ℕ) → refusal (not_up w []) ≡ n → (plan w).commands ≤ total most_commands (unretired_now w)
    go zero e = omega (arith, ap (λ (p : Planned). p.commands) (plan_is w e), bound (unretired_now w))
    go (suc n) e = omega (arith, ap (λ (p : Planned). p.commands) (plan_refused w n e))

pub plan_answers : (w : World) → PlanAnswers plan w
unfolding plan_for
plan_answers w =
    record {
      other_length = wrong_plan w;
      blank = λ e p. blank_plan w e (phase_blank w.card.phase p);
      down = λ e p. down_plan w e (phase_down w.card.phase p);
      up = λ e p. ap (λ (q : Planned). q.number) (up_plan w e (phase_up w.card.phase p));
      bounded = plan_bounded w;
    }
