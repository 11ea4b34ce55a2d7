-- A refused command meets its contract with the cells as they were; one carried out meets it where cells, disk and memory are
-- those of its definition and the changed cells are framed.
use Rattle.model.proofs.Base.{ℕ, ◌≡◌, refl, sym, subst, ◌∙◌, Bool, List, length, Bytes}
use Rattle.std.specs.Prelude.{Result, Ok, Err}
use Rattle.model.specs.Command.{Outcome, refusal, unless, World}
use Rattle.model.specs.Refusal.{number_of}
use Rattle.model.specs.declared.Refusal.{Refusal}
use Rattle.model.proofs.RefusalNumbers.{number_not_0}
use Rattle.cells.specs.Answer.{outcome_in, Meets}
use Rattle.cells.specs.Cells.{world_in}
use Rattle.cells.specs.Changes.{Frame}
use Rattle.cells.proofs.RefusalLaws.{was_refused, was_done}

-- the cells of a changed array
pub same_long : (v w : List ℕ) (a n : ℕ) → length v ≡ 423 → Frame v w a n → length w ≡ 423
same_long v w a n e b = b.size ∙ e

-- under another name of its outcome
pub meets_same : (o p : Outcome World) (v w : List ℕ) (d m : Bytes) (r : Result ℕ Refusal) → Meets o v w d m r → o ≡ p → Meets p v w d m r
meets_same o p v w d m r f e = record { outcome = f.outcome ∙ e; size = f.size; fits = f.fits; refused = f.refused }

module _ (cs : List (Bool × ℕ)) (v : List ℕ) (d m : Bytes) (done : Outcome World) (l : length v ≡ 423) where
  pub meets_refused : (e : Refusal) → number_of e ≡ refusal cs → Meets (unless cs (world_in v d m) done) v v d m (Err e)
  meets_refused e q =
      record { outcome = was_refused cs (world_in v d m) done (number_of e) q (number_not_0 e); size = l; fits = λ f. f; refused = λ z. refl }

  -- what `?` hands on
  pub meets_handed : (e : Refusal) → number_of e ≡ refusal cs → (r : Result ℕ Refusal) → r ≡ Err e → Meets (unless cs (world_in v d m) done) v v d m r
  meets_handed e q r h = subst (Meets (unless cs (world_in v d m) done) v v d m) (sym h) (meets_refused e q)

  pub meets_done : 0 ≡ refusal cs → (w : List ℕ) (k b : Bytes) (s : ℕ) → outcome_in (Ok s) w k b ≡ done → (a c : ℕ) → Frame v w a c
      → Meets (unless cs (world_in v d m) done) v w k b (Ok s)
  meets_done e w k b s q a c f =
      record { outcome = was_done cs (world_in v d m) done 0 e refl _ q; size = same_long v w a c l f; fits = f.fits; refused = λ z. absurd (z refl) }
