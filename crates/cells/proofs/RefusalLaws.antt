-- The first condition that holds, stage by stage: two lists joined, one condition, the conditions of each phase. A command is
-- refused with it, or carried out where there is none, and then none of the conditions holds.
use Rattle.model.proofs.Base.{ℕ, ◌<◌, arith, ◌≡◌, refl, sym, ◌∙◌, Bool, cond, not, List, [], ◌∷◌, ◌++◌, length, ne_eqb}
use Rattle.model.specs.Card.{is_blank, is_up, is_down}
use Rattle.model.specs.Command.{World, Outcome, refusal, unless, not_up, wrong_length, Clear, refused_with}
use Rattle.model.specs.Layout.{is_master}
use Rattle.model.specs.Recovery.{cut_conditions, recover_conditions_by, recover_conditions}
use Rattle.model.specs.Bytes.{block_at}
use Rattle.model.proofs.Lists.{cases}
use Rattle.model.proofs.OneStore.{right_lengths}
use Rattle.model.proofs.Command.{Numbered, refusal_clear, unless_refused, unless_done}
use Rattle.std.specs.Prelude.{Result, Err}
use Rattle.model.specs.Refusal.{number_of, answer_of}
use Rattle.model.specs.declared.Refusal.{Refusal}
use Rattle.model.proofs.RefusalNumbers.{number_not_0}
use Rattle.cells.specs.Answer.{first_of, by_phase, phase_refusal}
use Rattle.model.specs.declared.Phase.{Phase}
use Rattle.model.specs.declared.Phase.TheVariants.{Blank, Up, Down}

-- ---- the first of two stages that refuses
pub first_hit : (n a b : ℕ) → n ≡ a → (n ≡ 0 → ⊥) → n ≡ first_of a b
unfolding first_of
first_hit n a b e h = rw (← e) (simp (ne_eqb n 0 h))

pub first_pass : (n r a b : ℕ) → n ≡ a → n ≡ 0 → r ≡ b → r ≡ first_of a b
unfolding first_of
first_pass n r a b e h q = rw (← e, h) q

-- what `?` hands on of the first stage
pub handed_on : {A : Type 0} (r : Result A Refusal) (e : Refusal) (a b : ℕ) → number_of e ≡ a → r ≡ Err e → answer_of r ≡ first_of a b
handed_on r e a b q h = rw h (first_hit (number_of e) a b q (number_not_0 e))

-- a list of conditions in two stages
pub refusal_joined : (xs ys : List (Bool × ℕ)) → Numbered xs → refusal (xs ++ ys) ≡ first_of (refusal xs) (refusal ys)
unfolding refusal first_of
refusal_joined [] ys p = refl
refusal_joined (x ∷ xs) ys p =
    cases x.0
    (λ t. rw (t, ne_eqb x.1 0 (omega (arith, p.0))))
    (λ t. rw t (refusal_joined xs ys p.1))

-- what comes first, then the rest
pub refusal_up : (w : World) (ys : List (Bool × ℕ)) → refusal (not_up w ys) ≡ first_of (refusal (not_up w [])) (refusal ys)
refusal_up w ys = refusal_joined (not_up w []) ys (omega arith, (omega arith, (omega arith, tt)))

-- one condition alone
pub refusal_one : (t : Bool) (n : ℕ) → refusal ((t, n) ∷ []) ≡ cond t n 0
unfolding refusal
refusal_one t n = refl

-- one condition, then the rest
pub refusal_next : (t : Bool) (n : ℕ) (ys : List (Bool × ℕ)) → 0 < n → refusal ((t, n) ∷ ys) ≡ first_of (cond t n 0) (refusal ys)
refusal_next t n ys h = refusal_joined ((t, n) ∷ []) ys (h, tt) ∙ rw refusal_one

-- ---- the code's number is the refusal of the conditions
module _ (ts : List (Bool × ℕ)) (w : World) (done : Outcome World) (n : ℕ) (e : n ≡ refusal ts) where
  -- refused: its number alone, and nothing changed
  pub was_refused : (n ≡ 0 → ⊥) → refused_with n w ≡ unless ts w done
  was_refused h = sym (unless_refused ts w done n (sym e) (omega arith))

  -- carried out
  pub was_done : n ≡ 0 → (o : Outcome World) → o ≡ done → o ≡ unless ts w done
  was_done h o q = q ∙ sym (unless_done ts w done (sym e ∙ h))

  -- then no condition holds
  pub none_held : n ≡ 0 → Numbered ts → Clear ts
  none_held h p = refusal_clear ts p (sym e ∙ h)

-- ---- what each command meets first, by its numbers for the phases
module _ (t : Bool) where
  up_by_phase : (p : Phase) → cond t 1 (by_phase p 20 0 22) ≡ refusal ((t, 1) ∷ (is_blank p, 20) ∷ (is_down p, 22) ∷ [])
  unfolding by_phase refusal
  up_by_phase Blank = refl
  up_by_phase Up = refl
  up_by_phase Down = refl

  blank_by_phase : (p : Phase) → cond t 1 (by_phase p 0 21 21) ≡ refusal ((t, 1) ∷ (not (is_blank p), 21) ∷ [])
  unfolding by_phase refusal
  blank_by_phase Blank = refl
  blank_by_phase Up = refl
  blank_by_phase Down = refl

  cut_by_phase : (p : Phase) → cond t 1 (by_phase p 20 0 0) ≡ refusal ((t, 1) ∷ (is_blank p, 20) ∷ [])
  unfolding by_phase refusal
  cut_by_phase Blank = refl
  cut_by_phase Up = refl
  cut_by_phase Down = refl

  recover_by_phase : (p : Phase) → cond t 1 (by_phase p 20 23 0) ≡ refusal ((t, 1) ∷ (is_blank p, 20) ∷ (is_up p, 23) ∷ [])
  unfolding by_phase refusal
  recover_by_phase Blank = refl
  recover_by_phase Up = refl
  recover_by_phase Down = refl

module _ (w : World) where
  pub up_numbers : phase_refusal w 20 0 22 ≡ refusal (not_up w [])
  unfolding phase_refusal
  up_numbers = up_by_phase (wrong_length w) w.card.phase

  pub blank_numbers : phase_refusal w 0 21 21 ≡ refusal ((wrong_length w, 1) ∷ (not (is_blank w.card.phase), 21) ∷ [])
  unfolding phase_refusal
  blank_numbers = blank_by_phase (wrong_length w) w.card.phase

  pub cut_numbers : phase_refusal w 20 0 0 ≡ refusal (cut_conditions w)
  unfolding phase_refusal cut_conditions
  cut_numbers = cut_by_phase (wrong_length w) w.card.phase

  -- RECOVER looks at the first block last
  pub recover_numbers : first_of (phase_refusal w 20 23 0) (cond (not (is_master (block_at w.disk 0))) 8 0) ≡ refusal (recover_conditions w)
  unfolding phase_refusal recover_conditions_by
  recover_numbers =
      rw (recover_by_phase (wrong_length w) w.card.phase, ← refusal_one (not (is_master (block_at w.disk 0))) 8)
      (sym (refusal_joined ((wrong_length w, 1) ∷ (is_blank w.card.phase, 20) ∷ (is_up w.card.phase, 23) ∷ []) ((not (is_master (block_at w.disk 0)), 8) ∷ []) (omega arith, (omega arith, (omega arith, tt)))))

  -- passed: the slices have their lengths
  pub passed_lengths : (b u d : ℕ) → 0 ≡ phase_refusal w b u d → length w.disk ≡ 32896
  unfolding phase_refusal
  passed_lengths b u d e =
      cases (wrong_length w) (λ t. let z : ◌≡◌ {A = ℕ} 0 1 = rw t at e in absurd (omega arith)) (λ t. (right_lengths w t).0)
