-- What each command is answered, by phase: the ledger's number.
-- The conditions that come first are those of the phase, which card and ledger have in common; the only one of the
-- card's own behind them is 8, and a disk that holds what the ledger says never meets it.
use Prim.Native.Nat.{ℕ}
use mathlib.Core.Path.{◌≡◌, refl, sym, ap, ◌∙◌}
use mathlib.Core.Logic.{◌≢◌}
use mathlib.Core.Option.{some}
use mathlib.Core.Bool.{Bool, true, false}
use mathlib.Core.List.{List, [], ◌∷◌}
use lib.ListN.{length}
use Rattle.model.specs.Bytes.{block_at}
use Rattle.model.specs.Valid.{in_sequence}
use Rattle.model.specs.Card.{is_blank, is_up, is_down, fresh_card, empty_card, blank_card}
use Rattle.model.specs.Layout.{is_master}
use Rattle.model.specs.Command.{World, refusal, wrong_length, not_up}
use Rattle.model.specs.Format.{format_conditions}
use Rattle.model.specs.Write.{write_conditions}
use Rattle.model.specs.Commit.{close_conditions, store_conditions}
use Rattle.model.specs.Checkpoint.{checkpoint_conditions, retire_conditions, found_conditions, committed_conditions}
use Rattle.model.specs.Recovery.{cut_conditions, recover_conditions, recover_conditions_by}
use Rattle.model.proofs.OneStore.{lengths_right}
use Rattle.crash.specs.Ledger.{Ledger, blank_ledger, not_up_for, format_refusals, write_refusals, close_refusals, store_refusals, checkpoint_refusals, retire_refusals, refusals_of}
use Rattle.crash.proofs.Books.Tests.{clash}
use Rattle.crash.proofs.Disk.Relation.{CardUp, CardDown}
use Rattle.crash.proofs.Disk.ReadMaster.{master_stands}
use Rattle.model.specs.Tape.{block_limit, CHECKPOINT, CLOSE, CUT, Command, FORMAT, RECOVER, RETIRE, STORE, WRITE}
use Rattle.crash.specs.Book.{empty_book, absent, book_holder}
use Rattle.crash.proofs.Commands.CardAnswers.{checkpoint_answers, retire_answers, close_answers, store_answers, write_answers}
use Rattle.model.specs.Step.{conditions_of}
use Rattle.model.specs.declared.Phase.{Phase}
use Rattle.model.specs.declared.Phase.TheVariants.{Blank, Up, Down}
use Rattle.model.specs.declared.Card.{Card}
use Rattle.model.specs.declared.Name.{Name}

-- ---- by the phase
module _ (l : Ledger) (w : World) (sizes : wrong_length w ≡ false) where
  format_answer : (c b j : ℕ) → w.card.phase ≡ l.phase → refusal (format_conditions c b j w) ≡ refusal (format_refusals c b j l)
  unfolding refusal format_conditions format_refusals
  format_answer c b j same = rw (sizes, same)

  cut_answer : w.card.phase ≡ l.phase → refusal (cut_conditions w) ≡ refusal ((is_blank l.phase, 20) ∷ [])
  unfolding refusal cut_conditions
  cut_answer same = rw (sizes, same)

  -- the commands that want a card that is up
  not_up_answer : (p : Phase) → is_up p ≡ false → w.card.phase ≡ p → l.phase ≡ p → (c : ℕ) (ts rest : List (Bool × ℕ))
      → refusal (not_up w ts) ≡ refusal (not_up_for c l rest)
  unfolding refusal
  not_up_answer Blank h i j c ts rest = rw (sizes, i, j)
  not_up_answer Up h i j c ts rest = clash refl h
  not_up_answer Down h i j c ts rest = rw (sizes, i, j)

  recover_answer : (p : Phase) → (is_down p ≡ true → is_master (block_at w.disk 0) ≡ true) → w.card.phase ≡ p → l.phase ≡ p
      → refusal (recover_conditions w) ≡ refusal ((is_blank l.phase, 20) ∷ (is_up l.phase, 23) ∷ [])
  unfolding refusal recover_conditions_by
  recover_answer Blank m i j = rw (sizes, i, j)
  recover_answer Up m i j = rw (sizes, i, j)
  recover_answer Down m i j = rw (sizes, i, j, m refl)

  -- while the card is not up
  phase_answers : (p : Phase) → is_up p ≡ false → (is_down p ≡ true → is_master (block_at w.disk 0) ≡ true) → w.card.phase ≡ p → l.phase ≡ p
      → (k : Command) → refusal (conditions_of in_sequence k w) ≡ refusal (refusals_of k l)
  unfolding conditions_of refusals_of write_conditions write_refusals close_conditions close_refusals store_conditions store_refusals checkpoint_conditions retire_conditions checkpoint_refusals retire_refusals committed_conditions found_conditions
  phase_answers p h m i j (FORMAT c b f) = format_answer c b f (i ∙ sym j)
  phase_answers p h m i j (WRITE task c b o v) = not_up_answer p h i j c _ _
  phase_answers p h m i j (CLOSE c) = not_up_answer p h i j c _ _
  phase_answers p h m i j (STORE c) = not_up_answer p h i j c _ _
  phase_answers p h m i j (CHECKPOINT c) = not_up_answer p h i j c _ _
  phase_answers p h m i j CUT = cut_answer (i ∙ sym j)
  phase_answers p h m i j RECOVER = recover_answer p m i j
  phase_answers p h m i j (RETIRE c) = not_up_answer p h i j c _ _

-- ---- down: FORMAT 21, CUT and RECOVER 0, the others 22
pub down_answers : {l : Ledger} {w : World} → CardDown l w → (k : Command) → refusal (conditions_of in_sequence k w) ≡ refusal (refusals_of k l)
down_answers {l} {w} v =
    phase_answers l w (lengths_right w v.disk.size v.memory) Down refl (λ h. master_stands v.well_formed v.disk) v.phase v.ledger

-- ---- blank: FORMAT 0 or 4, the others 20
pub blank_answers : (w : World) → w.card ≡ blank_card → length w.disk ≡ 32896 → length w.memory ≡ 16384 → (k : Command)
    → refusal (conditions_of in_sequence k w) ≡ refusal (refusals_of k (blank_ledger in_sequence))
unfolding blank_card empty_card fresh_card blank_ledger empty_book
blank_answers w e d m = phase_answers (blank_ledger in_sequence) w (lengths_right w d m) Blank refl (λ h. clash h refl) (ap (λ (x : Card). x.phase) e) refl

-- ---- up: FORMAT 21, CUT 0, RECOVER 23; the others by what the transactions are
module _ {l : Ledger} {w : World} (u : CardUp l w) (opens : (b : ℕ) (n : Name) → book_holder l.book b l.book.writes ≡ some n → (l.book.entry n).stage ≢ absent) where
  abbrev sizes : wrong_length w ≡ false
  sizes = lengths_right w u.disk.size u.memory

  pub up_answers : (k : Command) → refusal (conditions_of in_sequence k w) ≡ refusal (refusals_of k l)
  unfolding conditions_of refusals_of
  up_answers (FORMAT c b j) = format_answer l w sizes c b j (u.phase ∙ sym u.ledger)
  up_answers (WRITE task c b o v) = write_answers u (block_limit task) c b o v (λ _. opens b)
  up_answers (CLOSE c) = close_answers u c
  up_answers (STORE c) = store_answers u c
  up_answers (CHECKPOINT c) = checkpoint_answers u c
  up_answers CUT = cut_answer l w sizes (u.phase ∙ sym u.ledger)
  up_answers RECOVER = recover_answer l w sizes Up (λ z. clash z refl) u.phase u.ledger
  up_answers (RETIRE c) = retire_answers u c
