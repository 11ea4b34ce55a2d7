-- Section 'Refusals' and the checks that paper 02 added: the number that the table gives each refusal, and what is answered.
use Rattle.std.specs.Prelude.{ℕ, Result, Ok, Err}
use Rattle.model.specs.declared.Refusal.{Refusal}
use Rattle.model.specs.declared.Refusal.TheVariants.{WrongLength, UnknownCommand, EarlyEnd, OutOfRange, NoCore, NoBlock, OffsetPast, UnfitMaster}
use Rattle.model.specs.declared.Refusal.TheVariants.{CardBlank, CardNotBlank, CardDown, CardUp, NinthBlock, JournalFull, NumbersEnd, NoneRunning}
use Rattle.model.specs.declared.Refusal.TheVariants.{PreviousNotStored, NothingToStore, NoneCommitted, OldestNotValid, SharedBlock}
use Rattle.model.specs.declared.Refusal.TheVariants.{HomeStoresLeft, AllStoredHome, ReportLimit}

-- the table: from the input, from the state, and of paper 02, (g) and (h). 24 can no longer occur
abbrev pub number_of : Refusal → ℕ
number_of WrongLength = 1
number_of UnknownCommand = 2
number_of EarlyEnd = 3
number_of OutOfRange = 4
number_of NoCore = 5
number_of NoBlock = 6
number_of OffsetPast = 7
number_of UnfitMaster = 8
number_of CardBlank = 20
number_of CardNotBlank = 21
number_of CardDown = 22
number_of CardUp = 23
number_of NinthBlock = 25
number_of JournalFull = 26
number_of NumbersEnd = 27
number_of NoneRunning = 28
number_of PreviousNotStored = 29
number_of NothingToStore = 30
number_of NoneCommitted = 31
number_of OldestNotValid = 32
number_of SharedBlock = 33
number_of HomeStoresLeft = 34
number_of AllStoredHome = 35
number_of ReportLimit = 36

-- 'A refusal answers its number alone', and 0 is answered where something is done
abbrev pub answer_of : {A : Type 0} → Result A Refusal → ℕ
answer_of (Ok x) = 0
answer_of (Err e) = number_of e
