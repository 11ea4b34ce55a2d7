-- WRITE, CLOSE, STORE, CHECKPOINT and RETIRE meet the same conditions first: a hit is the answer whatever follows, a pass leaves
-- what follows. Past them disk and memory have their lengths and the core is one of the card.
use Rattle.model.proofs.Base.{ℕ, ◌<◌, arith, ◌≡◌, refl, sym, ◌∙◌, Bool, cond, List, [], ◌∷◌, ◌++◌, length, leb, leb-false, Bytes}
use Rattle.model.specs.Card.{shape_of}
use Rattle.model.specs.Command.{World, refusal, not_up, no_core, Clear}
use Rattle.model.specs.declared.Card.{Card}
use Rattle.model.proofs.Command.{Numbered, refusal_clear}
use Rattle.model.proofs.OneStore.{shape_limits, right_lengths}
use Rattle.cells.specs.Answer.{first_of}
use Rattle.cells.specs.Cells.{world}
use Rattle.std.specs.Prelude.{Result, Err}
use Rattle.model.specs.Refusal.{number_of, answer_of}
use Rattle.model.specs.declared.Refusal.{Refusal}
use Rattle.cells.proofs.RefusalLaws.{first_pass, handed_on, refusal_joined, refusal_up, refusal_one}

-- lengths, phase and core
abbrev pub entry : ℕ → World → List (Bool × ℕ)
entry c w = not_up w ((no_core w c, 5) ∷ [])

module _ (c : ℕ) (x : Card) (d m : Bytes) where
  pub stages : refusal (entry c (world x d m)) ≡ first_of (refusal (not_up (world x d m) [])) (cond (leb (shape_of x).cores c) 5 0)
  unfolding no_core
  stages = refusal_up (world x d m) ((no_core (world x d m) c, 5) ∷ []) ∙ rw refusal_one

  pub entry_up : {A : Type 0} (r : Result A Refusal) (e : Refusal) → number_of e ≡ refusal (not_up (world x d m) []) → r ≡ Err e
      → answer_of r ≡ refusal (entry c (world x d m))
  entry_up r e q h = handed_on r e _ _ q h ∙ sym stages

  pub entry_core : 0 ≡ refusal (not_up (world x d m) []) → (n : ℕ) → n ≡ cond (leb (shape_of x).cores c) 5 0 → n ≡ refusal (entry c (world x d m))
  entry_core h n q = first_pass 0 n _ _ h refl q ∙ sym stages

-- what follows them
module _ (c : ℕ) (w : World) (ys : List (Bool × ℕ)) where
  joined : refusal (entry c w ++ ys) ≡ first_of (refusal (entry c w)) (refusal ys)
  joined = refusal_joined (entry c w) ys (omega arith, (omega arith, (omega arith, (omega arith, tt))))

  pub entry_hit : {A : Type 0} (r : Result A Refusal) (e : Refusal) → number_of e ≡ refusal (entry c w) → r ≡ Err e
      → answer_of r ≡ refusal (entry c w ++ ys)
  entry_hit r e q h = handed_on r e _ _ q h ∙ sym joined

  pub entry_pass : 0 ≡ refusal (entry c w) → (n : ℕ) → n ≡ refusal ys → n ≡ refusal (entry c w ++ ys)
  entry_pass h n q = first_pass 0 n _ _ h refl q ∙ sym joined

-- what is known once they are passed
pub record Entered (x : Card) (c : ℕ) (d m : Bytes) : Type 0 where
  pub disk : length d ≡ 32896
  pub memory : length m ≡ 16384
  pub core : c < (shape_of x).cores
  pub few : c < 8

pub entered : (x : Card) (c : ℕ) (d m : Bytes) (ys : List (Bool × ℕ)) → Numbered ys → refusal (entry c (world x d m) ++ ys) ≡ 0 → Entered x c d m
unfolding no_core
entered x c d m ys p z =
    let k : Clear (entry c (world x d m) ++ ys) = refusal_clear _ (omega arith, (omega arith, (omega arith, (omega arith, p)))) z in
    let l = right_lengths (world x d m) k.0 in
    let s = shape_limits x in
    let f : c < (shape_of x).cores = leb-false _ c k.1.1.1.0 in
    record { disk = l.0; memory = l.1; core = f; few = omega (arith, s.few_cores) }
