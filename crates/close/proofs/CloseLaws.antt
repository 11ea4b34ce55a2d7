-- CLOSE answers 28 and 29 under their conditions; the images copied block by block are the definition's copies, and a copy's
-- flag says whether it begins with the mark. Refused, or carried out, CLOSE meets its contract.
use Rattle.model.proofs.Base.{ℕ, ◌+◌, ◌-◌, ◌*◌, ◌%◌, ◌≤◌, ◌<◌, arith, add-one, ◌≡◌, sym, ap, ◌∙◌, Bool, true, false, not, List}
use Rattle.model.proofs.Base.{[], ◌∷◌, ◌++◌, length, take, drop, get_or, length-take, get_or-take, not-true, not-false, Bytes}
use Rattle.std.proofs.Common.{drop_of_length-le, drop-cons}
use Rattle.model.specs.Bytes.{block_at, store}
use Rattle.model.specs.Card.{taken, core_of}
use Rattle.model.specs.Layout.{flag_of}
use Rattle.model.specs.Command.{refusal}
use Rattle.model.specs.Commit.{copy_block, copied, close_conditions, closed_card, closed, close}
use Rattle.model.specs.declared.Transaction.{Transaction}
use Rattle.model.specs.declared.Card.{Card}
use Rattle.layout.proofs.Blocks.{block_lent}
use Rattle.cells.specs.Cells.{byte_in, transaction_in, card_in, running_place, closed_place, world_in}
use Rattle.cells.specs.Changes.{Frame}
use Rattle.cells.specs.Answer.{Meets}
use Rattle.cells.proofs.ReadLaws.{block_read, running_there, running_live, closed_live}
use Rattle.cells.proofs.EntryLaws.{entry, entry_hit, entry_pass, Entered, entered}
use Rattle.cells.proofs.MeetLaws.{meets_handed, meets_done}
use Rattle.std.specs.Prelude.{Result, Ok, Err}
use Rattle.model.specs.Refusal.{number_of, answer_of}
use Rattle.model.specs.declared.Refusal.{Refusal}

-- ---- refusals
-- what CLOSE asks of the core
abbrev of_running : Card → ℕ → List (Bool × ℕ)
of_running x c = (not (core_of x c).running.live, 28) ∷ ((core_of x c).closed.live, 29) ∷ []

module _ (v : List ℕ) (c : ℕ) (d m : Bytes) where
  pub close_first : {A : Type 0} (r : Result A Refusal) (e : Refusal) → number_of e ≡ refusal (entry c (world_in v d m)) → r ≡ Err e
      → answer_of r ≡ refusal (close_conditions c (world_in v d m))
  unfolding close_conditions
  close_first r e q h = entry_hit c (world_in v d m) (of_running (card_in v) c) r e q h

  module _ (e : 0 ≡ refusal (entry c (world_in v d m))) where
    few : c < 8
    few = (entered (card_in v) c d m [] tt (sym e)).few

    -- the places stand within the cells
    pub running_fits : (a : ℕ) → a ≡ running_place c → a + 19 ≤ 423
    running_fits a q = omega (arith, few)

    pub closed_fits : (a : ℕ) → a ≡ closed_place c → a + 19 ≤ 423
    closed_fits a q = omega (arith, few)

    module _ (a : ℕ) (q : a ≡ running_place c) (g : Bool) (r : g ≡ (transaction_in v a).live) where
      runs : g ≡ (core_of (card_in v) c).running.live
      runs = running_live v c few a q g r

      pub close_none : not g ≡ true → 28 ≡ refusal (close_conditions c (world_in v d m))
      unfolding close_conditions refusal
      close_none z = entry_pass c (world_in v d m) (of_running (card_in v) c) e 28 (rw (← runs, not-true g z))

      module _ (b : ℕ) (s : b ≡ closed_place c) (k : Bool) (t : k ≡ (transaction_in v b).live) where
        is_closed_lem : k ≡ (core_of (card_in v) c).closed.live
        is_closed_lem = closed_live v c few b s k t

        pub close_early : not g ≡ false → k ≡ true → 29 ≡ refusal (close_conditions c (world_in v d m))
        unfolding close_conditions refusal
        close_early z y = entry_pass c (world_in v d m) (of_running (card_in v) c) e 29 (rw (← runs, not-false g z, ← is_closed_lem, y))

        pub close_free : not g ≡ false → k ≡ false → 0 ≡ refusal (close_conditions c (world_in v d m))
        unfolding close_conditions refusal
        close_free z y = entry_pass c (world_in v d m) (of_running (card_in v) c) e 0 (rw (← runs, not-false g z, ← is_closed_lem, y))

-- ---- the copies
-- the element of the array is the block taken
pub taken_at : (t : Transaction) (i : ℕ) → i < length (taken t) → get_or t.blocks i 0 ≡ get_or (taken t) i 0
unfolding taken
taken_at t i h = sym (get_or-take t.count t.blocks i 0 (omega (arith, length-take t.count t.blocks)))

-- through a value
pub copied_image : (m : Bytes) (j : ℕ) (image z : Bytes) → image ≡ block_at m j → z ≡ image → (k p : ℕ) → k ≡ p
    → take (128 * k) m ++ (z ++ drop (128 * k + 128 - 128 * k) (drop (128 * k) m)) ≡ store m p (block_at m j)
copied_image m j image z e q k p r = block_lent m k z (block_at m j) (q ∙ e) ∙ ap (λ (n : ℕ). store m n (block_at m j)) r

copied_one : (c i : ℕ) (bs : List ℕ) (m : Bytes) → i < length bs
    → copied c i (drop i bs) m ≡ copied c (i + 1) (drop (i + 1) bs) (store m (copy_block c i) (block_at m (get_or bs i 0 % 64)))
unfolding copied
copied_one c i bs m h =
    ap (λ (l : List ℕ). copied c i l m) (drop-cons bs i 0 h)
    ∙ ap (λ (n : ℕ). copied c n (drop n bs) (store m (copy_block c i) (block_at m (get_or bs i 0 % 64)))) (sym (add-one i))

module _ (w : List ℕ) (a c i count : ℕ) (m₀ m : Bytes) (e : copied c i (drop i (taken (transaction_in w a))) m ≡ copied c 0 (taken (transaction_in w a)) m₀) (n : count ≡ length (taken (transaction_in w a))) where
  pub copied_more : (b : ℕ) → b ≡ byte_in w (a + 3 + i) → (z : Bytes) → z ≡ store m (copy_block c i) (block_at m (b % 64)) → i < count → count ≤ 8
      → copied c (i + 1) (drop (i + 1) (taken (transaction_in w a))) z ≡ copied c 0 (taken (transaction_in w a)) m₀
  copied_more b r z q h f =
      let l : i < length (taken (transaction_in w a)) = omega arith in
      let s : b ≡ get_or (taken (transaction_in w a)) i 0 = r ∙ sym (block_read w a i 0 (omega arith)) ∙ taken_at (transaction_in w a) i l in
      rw (q, s) (sym (copied_one c i (taken (transaction_in w a)) m l) ∙ e)

  pub copied_all : count ≤ i → m ≡ copied c 0 (taken (transaction_in w a)) m₀
  unfolding copied
  copied_all h =
      let l : length (taken (transaction_in w a)) ≤ i = omega arith in
      sym (ap (λ (bs : List ℕ). copied c i bs m) (drop_of_length-le (taken (transaction_in w a)) l)) ∙ e

-- ---- copies read, and their flags
pub copy_read : (m : Bytes) (k p : ℕ) → k ≡ p → (image : Bytes) → image ≡ block_at m k → image ≡ block_at m p
copy_read m k p e image q = q ∙ ap (block_at m) e

-- the flag of a core's copy
abbrev pub copy_flag : ℕ → Bytes → ℕ → ℕ
copy_flag c m = λ i. flag_of (block_at m (copy_block c i))

pub flag_read : (c : ℕ) (m : Bytes) (i : ℕ) (image : Bytes) → image ≡ block_at m (copy_block c i) → (f : ℕ) → f ≡ flag_of image → f ≡ copy_flag c m i
flag_read c m i image e f q = q ∙ ap flag_of e

-- ---- the command
module _ (v : List ℕ) (size : length v ≡ 423) (c : ℕ) (d m : Bytes) where
  pub close_refused : (e : Refusal) → number_of e ≡ refusal (close_conditions c (world_in v d m)) → (r : Result ℕ Refusal) → r ≡ Err e
      → Meets (close c (world_in v d m)) v v d m r
  unfolding close
  close_refused e q r h = meets_handed (close_conditions c (world_in v d m)) v d m (closed c (world_in v d m)) size e q r h

  module _ (e : 0 ≡ refusal (close_conditions c (world_in v d m))) where
    close_entered : Entered (card_in v) c d m
    unfolding close_conditions
    close_entered = entered (card_in v) c d m (of_running (card_in v) c) (omega arith, (omega arith, tt)) (sym e)

    pub close_memory : length m ≡ 16384
    close_memory = close_entered.memory

    pub close_core : c < 8
    close_core = close_entered.few

    module _ (a : ℕ) (q : a ≡ running_place c) where
      pub close_place : a + 19 ≤ 423
      close_place = omega (arith, close_core)

      pub close_done : (z : Bytes) → z ≡ copied c 0 (taken (transaction_in v a)) m → (w : List ℕ) → card_in w ≡ closed_card (card_in v) c → Frame v w 0 423 → Meets (close c (world_in v d m)) v w d z (Ok 0)
      unfolding close closed
      close_done z r w s f =
          meets_done (close_conditions c (world_in v d m)) v d m (closed c (world_in v d m)) size e w d z 0
          (rw (r, s, running_there v c close_core a q)) 0 423 f
