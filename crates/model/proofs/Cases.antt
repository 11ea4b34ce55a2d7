-- The nine cases P1 to P9 of paper 01: the definitions print what the table says, by computing. Then a tape on which
-- several refusals apply at once: the first in the order of section 'Refusals' is answered.
use Prim.Native.Nat.{ℕ}
use mathlib.Core.Path.{◌≡◌, refl}
use mathlib.Core.List.{List, [], ◌∷◌, map}
use Rattle.model.specs.Bytes.{Bytes}
use Rattle.model.specs.Valid.{in_sequence}
use Rattle.model.specs.Cases.{Case, outcome_of, cases}
use Rattle.model.specs.Printing.{Line}
use Rattle.model.proofs.Computes.{computes}

pub nine_cases : map (λ (c : Case). outcome_of in_sequence c.tape) cases ≡ cases
unfolding computes
nine_cases = refl

-- the answers of a tape's commands
abbrev answers : Bytes → List ℕ
answers t = map (λ (l : Line). l.answer) (outcome_of in_sequence t).prints.lines

-- On a blank card 20 before 5; then 4; FORMAT; 21 before 4; 5 before 6 before 7; 7 before 26 (J = 4, two blocks taken);
-- 28 before 29; 23; 22 before 5.
pub order_of_state :
    answers
    (2 ∷ 9 ∷ 1 ∷ 0 ∷ 125 ∷ 0 ∷ 0 ∷ 0 ∷ 0 ∷ 1 ∷ 9 ∷ 4 ∷ 4 ∷ 1 ∷ 1 ∷ 4 ∷ 4 ∷ 1 ∷ 9 ∷ 4 ∷ 4 ∷
    2 ∷ 9 ∷ 1 ∷ 0 ∷ 125 ∷ 0 ∷ 0 ∷ 0 ∷ 0 ∷ 2 ∷ 0 ∷ 1 ∷ 0 ∷ 125 ∷ 0 ∷ 0 ∷ 0 ∷ 0 ∷
    2 ∷ 0 ∷ 0 ∷ 0 ∷ 0 ∷ 1 ∷ 2 ∷ 3 ∷ 4 ∷ 2 ∷ 0 ∷ 0 ∷ 1 ∷ 0 ∷ 1 ∷ 2 ∷ 3 ∷ 4 ∷ 2 ∷ 0 ∷ 0 ∷ 2 ∷ 125 ∷ 0 ∷ 0 ∷ 0 ∷ 0 ∷
    3 ∷ 0 ∷ 3 ∷ 0 ∷ 7 ∷ 6 ∷ 3 ∷ 9 ∷ [])
    ≡ 20 ∷ 4 ∷ 0 ∷ 21 ∷ 5 ∷ 6 ∷ 0 ∷ 0 ∷ 7 ∷ 0 ∷ 28 ∷ 23 ∷ 0 ∷ 22 ∷ []
unfolding computes
order_of_state = refl
