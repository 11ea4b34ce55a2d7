-- A plan laid into the buffer: four numbers, and the order.
use Rattle.model.proofs.Base.{ℕ, arith, ◌≡◌, refl, sym, ap, ◌∙◌, List, [], ◌∷◌, ◌++◌}
use Rattle.model.proofs.Base.{length, take, set, length-set, take_all, append-nil}
use lib.ListN.{drop_of_length-le}
use borrow.Rule.Slice.PartMut.{put_mid}
use Rattle.std.proofs.lemmas.Slice.{put_mid-paste}
use Rattle.planner.specs.Plan.{Planned}
use Rattle.planner.specs.Result.{PlanAnswer, answered, plan_of, plan_cells}
use Rattle.planner.specs.declared.PlannedWork.{PlannedWork}
use Rattle.std.specs.Prelude.{replicate, Ok, Err}
use Rattle.model.specs.Refusal.{number_of}
use Rattle.model.specs.declared.Refusal.{Refusal}

-- ---- the four numbers, and the order behind them
first_four : (a b c d : ℕ) (out : List ℕ) → length out ≡ 116 → take 4 (set (set (set (set out 0 a) 1 b) 2 c) 3 d) ≡ a ∷ b ∷ c ∷ d ∷ []
first_four a b c d (p ∷ q ∷ r ∷ s ∷ out) h = refl
first_four a b c d (p ∷ q ∷ r ∷ []) h = absurd (omega arith)
first_four a b c d (p ∷ q ∷ []) h = absurd (omega arith)
first_four a b c d (p ∷ []) h = absurd (omega arith)
first_four a b c d [] h = absurd (omega arith)

pub laid_cells : (a b c d : ℕ) (order out part : List ℕ) → length order ≡ 112 → length out ≡ 116 → part ≡ order
    → put_mid 4 112 (set (set (set (set out 0 a) 1 b) 2 c) 3 d) part ≡ a ∷ b ∷ c ∷ d ∷ order
laid_cells a b c d order out part g h e =
    let full = set (set (set (set out 0 a) 1 b) 2 c) 3 d in
    let l : length full ≡ 116 = simp length-set h in
    put_mid-paste 4 112 full part order 112 e refl (sym g)
    ∙ ap (λ (xs : List ℕ). take 4 full ++ take 112 order ++ xs) (drop_of_length-le full {i = 116} (omega arith))
    ∙ append-nil (take 4 full ++ take 112 order)
    ∙ ap (λ (xs : List ℕ). xs ++ take 112 order) (first_four a b c d out h)
    ∙ ap (λ (xs : List ℕ). a ∷ b ∷ c ∷ d ∷ xs) (take_all 112 order (omega arith))

-- the cells of what is answered
abbrev cells_laid : PlanAnswer → List ℕ
cells_laid r = r.number ∷ r.commands ∷ r.stores ∷ r.count ∷ r.order

-- the plan's, or a refusal's
pub laid_plan : (p : Planned) (r : PlannedWork) (out : List ℕ) → answered (Ok r) ≡ plan_of p → out ≡ 0 ∷ r.commands ∷ r.stores ∷ r.count ∷ r.order → out ≡ plan_cells p
unfolding plan_of plan_cells
laid_plan p r out e g = g ∙ ap cells_laid e

pub laid_refused : (p : Planned) (e : Refusal) (n : ℕ) (out : List ℕ) → answered (Err e) ≡ plan_of p → n ≡ number_of e → out ≡ n ∷ 0 ∷ 0 ∷ 0 ∷ replicate 112 0
    → out ≡ plan_cells p
unfolding plan_of plan_cells
laid_refused p e n out q h g = g ∙ rw h (ap cells_laid q)
