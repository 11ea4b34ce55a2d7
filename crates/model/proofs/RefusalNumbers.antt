-- The number of a refusal is never 0, and what is answered says whether one was met.
use Rattle.model.proofs.Base.{◌<◌, arith, ◌≡◌, refl, true, false}
use Rattle.std.specs.Prelude.{Result, Ok, Err, is_err}
use Rattle.model.specs.Refusal.{number_of, answer_of}
use Rattle.model.specs.declared.Refusal.{Refusal}
use Rattle.model.specs.declared.Refusal.TheVariants.{WrongLength, UnknownCommand, EarlyEnd, OutOfRange, NoCore, NoBlock, OffsetPast, UnfitMaster}
use Rattle.model.specs.declared.Refusal.TheVariants.{CardBlank, CardNotBlank, CardDown, CardUp, NinthBlock, JournalFull, NumbersEnd, NoneRunning}
use Rattle.model.specs.declared.Refusal.TheVariants.{PreviousNotStored, NothingToStore, NoneCommitted, OldestNotValid, SharedBlock}
use Rattle.model.specs.declared.Refusal.TheVariants.{HomeStoresLeft, AllStoredHome, ReportLimit}

pub number_above : (e : Refusal) → 0 < number_of e
number_above WrongLength = omega arith
number_above UnknownCommand = omega arith
number_above EarlyEnd = omega arith
number_above OutOfRange = omega arith
number_above NoCore = omega arith
number_above NoBlock = omega arith
number_above OffsetPast = omega arith
number_above UnfitMaster = omega arith
number_above CardBlank = omega arith
number_above CardNotBlank = omega arith
number_above CardDown = omega arith
number_above CardUp = omega arith
number_above NinthBlock = omega arith
number_above JournalFull = omega arith
number_above NumbersEnd = omega arith
number_above NoneRunning = omega arith
number_above PreviousNotStored = omega arith
number_above NothingToStore = omega arith
number_above NoneCommitted = omega arith
number_above OldestNotValid = omega arith
number_above SharedBlock = omega arith
number_above HomeStoresLeft = omega arith
number_above AllStoredHome = omega arith
number_above ReportLimit = omega arith

pub number_not_0 : (e : Refusal) → number_of e ≡ 0 → ⊥
number_not_0 e h = let p : 0 < number_of e = number_above e in absurd (omega arith)

-- by the library's test of a result
module _ {A : Type 0} where
  pub refused_answer : (r : Result A Refusal) → is_err r ≡ true → answer_of r ≡ 0 → ⊥
  refused_answer (Ok x) h = absurd (cc)
  refused_answer (Err e) h = number_not_0 e

  pub done_answer : (r : Result A Refusal) → is_err r ≡ false → answer_of r ≡ 0
  done_answer (Ok x) h = refl
  done_answer (Err e) h = absurd (cc)
