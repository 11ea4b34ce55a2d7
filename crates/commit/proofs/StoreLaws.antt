-- STORE answers 30 under its condition. What is written next is the descriptor, then each copy escaped, then the commit, and it
-- stands at the position after what the journal holds. Refused, or carried out, STORE meets its contract.
use Rattle.model.proofs.Base.{ℕ, ◌+◌, ◌-◌, ◌*◌, ◌≤◌, ◌<◌, min, arith, ◌≡◌, sym, ap, ◌∙◌, Bool, true, false, not, List, [], ◌∷◌}
use Rattle.model.proofs.Base.{◌++◌, map, length, take, drop, get_or, length-take, ne_eqb, le-leb, lt-leb, not-true, not-false}
use Rattle.model.proofs.Base.{below, Bytes}
use Rattle.model.specs.Bytes.{block_at}
use Rattle.model.specs.Shape.{clamped, journal_block}
use Rattle.model.specs.Card.{taken, highest_of, shape_of, tail_of, core_of, with_core}
use Rattle.model.specs.Layout.{new_tag, descriptor_block, commit_block, escaped}
use Rattle.model.specs.Command.{refusal}
use Rattle.model.specs.Commit.{copy_block, copy_tags, closed_number, next_stored, next_position, core_stored, store_conditions, stored, store_next}
use Rattle.model.specs.declared.Shape.{Shape}
use Rattle.model.specs.declared.Tail.{Tail}
use Rattle.model.specs.declared.Transaction.{Transaction}
use Rattle.model.specs.declared.Card.{Card}
use Rattle.model.proofs.Lists.{get_or_map_below, map_below}
use Rattle.model.proofs.Limits.{clamped_same}
use Rattle.model.proofs.OneStore.{shape_limits, store_place_low, position}
use Rattle.layout.proofs.Blocks.{block_lent}
use Rattle.cells.specs.Cells.{byte_in, number_in, transaction_in, card_in, core_place, closed_place, world_in}
use Rattle.cells.specs.Changes.{Frame}
use Rattle.cells.specs.Answer.{Meets}
use Rattle.cells.proofs.ReadLaws.{stamp_read, count_read, blocks_long, next_there, used_there, stored_there, closed_there, closed_live}
use Rattle.cells.proofs.EntryLaws.{entry, entry_hit, entry_pass, Entered, entered}
use Rattle.cells.proofs.MeetLaws.{meets_handed, meets_done}
use Rattle.std.specs.Prelude.{Result, Ok, Err}
use Rattle.model.specs.Refusal.{number_of, answer_of}
use Rattle.model.specs.declared.Refusal.{Refusal}
use Rattle.close.proofs.CloseLaws.{taken_at, copy_flag}

-- ---- refusals
-- what STORE asks of the core
abbrev of_closed : Card → ℕ → List (Bool × ℕ)
of_closed x c = (not (core_of x c).closed.live, 30) ∷ []

module _ (v : List ℕ) (c : ℕ) (d m : Bytes) where
  pub store_first : {A : Type 0} (r : Result A Refusal) (e : Refusal) → number_of e ≡ refusal (entry c (world_in v d m)) → r ≡ Err e
      → answer_of r ≡ refusal (store_conditions c (world_in v d m))
  unfolding store_conditions
  store_first r e q h = entry_hit c (world_in v d m) (of_closed (card_in v) c) r e q h

  module _ (e : 0 ≡ refusal (entry c (world_in v d m))) (a : ℕ) (q : a ≡ closed_place c) (g : Bool) (r : g ≡ (transaction_in v a).live) where
    is_closed_lem : g ≡ (core_of (card_in v) c).closed.live
    is_closed_lem = closed_live v c (entered (card_in v) c d m [] tt (sym e)).few a q g r

    pub store_none : not g ≡ true → 30 ≡ refusal (store_conditions c (world_in v d m))
    unfolding store_conditions refusal
    store_none z = entry_pass c (world_in v d m) (of_closed (card_in v) c) e 30 (rw (← is_closed_lem, not-true g z))

    pub store_free : not g ≡ false → 0 ≡ refusal (store_conditions c (world_in v d m))
    unfolding store_conditions refusal
    store_free z = entry_pass c (world_in v d m) (of_closed (card_in v) c) e 0 (rw (← is_closed_lem, not-false g z))

-- ---- the arrays of a transaction, read out of its cells
abbrev pub block_in : List ℕ → ℕ → ℕ → ℕ
block_in w a = λ i. byte_in w (a + 3 + i)

abbrev pub number_cell : List ℕ → ℕ → ℕ → ℕ
number_cell w a = λ c. number_in w (a + 11 + c)

module _ (w : List ℕ) (a : ℕ) where
  pub blocks_read : (bs : List ℕ) → bs ≡ map (block_in w a) (below 8) → bs ≡ (transaction_in w a).blocks
  unfolding transaction_in
  blocks_read bs e = e

  pub highest_read : (ns : List ℕ) → ns ≡ map (number_cell w a) (below 8) → ns ≡ (transaction_in w a).highest
  unfolding transaction_in
  highest_read ns e = e

-- ---- what is stored next
took : (t : Transaction) → length t.blocks ≡ 8 → length (taken t) ≡ min t.count 8
unfolding taken
took t n = length-take t.count t.blocks ∙ ap (min t.count) n

-- the first of the eight flags belong to the blocks taken
same_held : (t : Transaction) (c : ℕ) (m : Bytes) (fs : List ℕ) → fs ≡ map (copy_flag c m) (below 8) → length t.blocks ≡ 8
    → map (λ (i : ℕ). new_tag (get_or t.blocks i 0) (get_or fs i 0)) (below (min t.count 8)) ≡ copy_tags c (taken t) m
unfolding copy_tags
same_held t c m fs e n =
    let l : length (taken t) ≡ min t.count 8 = took t n in
    rw l
    (map_below _ _ (min t.count 8)
    (λ i h.
    let a : get_or t.blocks i 0 ≡ get_or (taken t) i 0 = taken_at t i (omega arith) in
    let b : get_or fs i 0 ≡ copy_flag c m i = ap (λ (l : List ℕ). get_or l i 0) e ∙ get_or_map_below (copy_flag c m) 8 i 0 (omega arith) in
    rw (a, b)))

module _ (w : List ℕ) (a num : ℕ) where
  pub first_written : (c : ℕ) (m : Bytes) (fs : List ℕ) → fs ≡ map (copy_flag c m) (below 8) → (bs : List ℕ) → bs ≡ (transaction_in w a).blocks → (n : ℕ) → n ≡ byte_in w (a + 2)
      → (b : Bytes) → b ≡ descriptor_block num (map (λ (i : ℕ). new_tag (get_or bs i 0) (get_or fs i 0)) (below (min n 8)))
      → b ≡ descriptor_block num (copy_tags c (taken (transaction_in w a)) m)
  first_written c m fs e bs p n q b r = r ∙ rw (p, q, count_read w a) (ap (descriptor_block num) (same_held (transaction_in w a) c m fs e (blocks_long w a)))

  pub last_written : (ns : List ℕ) → ns ≡ (transaction_in w a).highest
      → (b : Bytes) → b ≡ commit_block num (get_or w (a + 1) 0) (λ (c : ℕ). get_or ns c 0) → b ≡ commit_block num (transaction_in w a).stamp (highest_of (transaction_in w a))
  unfolding highest_of
  last_written ns p b r = r ∙ rw (p, stamp_read w a)

pub copy_written : (m : Bytes) (k : ℕ) (image : Bytes) → image ≡ block_at m k → (b : Bytes) → b ≡ escaped image → b ≡ escaped (block_at m k)
copy_written m k image e b q = q ∙ ap escaped e

-- the number of the closed transaction
module _ (v : List ℕ) (c : ℕ) (h : c < 8) (a : ℕ) (e : a ≡ core_place c) (n : ℕ) (q : n ≡ number_in v a) where
  pub number_one : n - 1 ≡ closed_number (core_of (card_in v) c)
  number_one = ap (λ (k : ℕ). k - 1) (next_there v c h a e n q)

module _ (v : List ℕ) (c : ℕ) (h : c < 8) (m : Bytes) (p : ℕ) (i : p ≡ closed_place c) (num : ℕ) (q : num ≡ closed_number (core_of (card_in v) c)) (a : ℕ) (j : a ≡ core_place c) (done : ℕ) (s : done ≡ byte_in v (a + 2)) (b : Bytes) where
  at_closed : transaction_in v p ≡ (core_of (card_in v) c).closed
  at_closed = closed_there v c h p i

  at_stored : done ≡ (core_of (card_in v) c).stored
  at_stored = stored_there v c h a j done s

  pub next_descriptor : b ≡ descriptor_block num (copy_tags c (taken (transaction_in v p)) m) → done ≡ 0 → b ≡ next_stored c (core_of (card_in v) c) m
  unfolding next_stored
  next_descriptor r z = r ∙ rw (← at_stored, z, q, at_closed)

  pub next_data : b ≡ escaped (block_at m (copy_block c (done - 1))) → (n : ℕ) → n ≡ length (taken (transaction_in v p)) → (done ≡ 0 → ⊥) → done ≤ n → b ≡ next_stored c (core_of (card_in v) c) m
  unfolding next_stored
  next_data r n l z f = r ∙ rw (← at_stored, ← at_closed, ne_eqb done 0 z, le-leb done (length (taken (transaction_in v p))) (omega arith))

  pub next_commit : b ≡ commit_block num (transaction_in v p).stamp (highest_of (transaction_in v p)) → (n : ℕ) → n ≡ length (taken (transaction_in v p)) → (done ≡ 0 → ⊥) → n < done → b ≡ next_stored c (core_of (card_in v) c) m
  unfolding next_stored
  next_commit r n l z f = r ∙ rw (← at_stored, ← at_closed, ne_eqb done 0 z, lt-leb done (length (taken (transaction_in v p))) (omega arith), q)

-- ---- the position
pub position_is : (v : List ℕ) (c : ℕ) → c < 8 → (t : Tail) → t ≡ tail_of (card_in v) c → (a : ℕ) → a ≡ core_place c → (u : ℕ) → u ≡ byte_in v (a + 1) → (s : ℕ) → s ≡ byte_in v (a + 2)
    → t.position + u + s ≡ next_position (card_in v) c
unfolding next_position
position_is v c h t i a e u j s k = rw (i, used_there v c h a e u j, stored_there v c h a e s k)

-- ---- the command
module _ (v : List ℕ) (size : length v ≡ 423) (c : ℕ) (d m : Bytes) where
  pub store_refused : (e : Refusal) → number_of e ≡ refusal (store_conditions c (world_in v d m)) → (r : Result ℕ Refusal) → r ≡ Err e
      → Meets (store_next c (world_in v d m)) v v d m r
  unfolding store_next
  store_refused e q r h = meets_handed (store_conditions c (world_in v d m)) v d m (stored c (world_in v d m)) size e q r h

  module _ (e : 0 ≡ refusal (store_conditions c (world_in v d m))) where
    store_entered : Entered (card_in v) c d m
    unfolding store_conditions
    store_entered = entered (card_in v) c d m (of_closed (card_in v) c) (omega arith, tt) (sym e)

    pub store_memory : length m ≡ 16384
    store_memory = store_entered.memory

    pub store_core : c < 8
    store_core = store_entered.few

    module _ (s : Shape) (q : s ≡ shape_of (card_in v)) (p j : ℕ) (r : j ≡ journal_block (clamped s) c p) where
      store_place : j ≡ journal_block (shape_of (card_in v)) c p
      store_place = r ∙ ap (λ (t : Shape). journal_block t c p) (ap clamped q ∙ clamped_same (shape_of (card_in v)) (shape_limits (card_in v)))

      -- the block stands on the disk
      pub store_low : j < 257
      store_low = rw store_place (store_place_low (shape_limits (card_in v)) (position store_entered.core p))

      pub store_end : 128 * j + 128 ≤ length d
      store_end = omega (arith, store_low, store_entered.disk)

      pub store_done : p ≡ next_position (card_in v) c → (z : Bytes) → z ≡ next_stored c (core_of (card_in v) c) m
          → (w : List ℕ) → card_in w ≡ with_core (card_in v) c (core_stored (core_of (card_in v) c)) → Frame v w (core_place c) 42
          → Meets (store_next c (world_in v d m)) v w (take (128 * j) d ++ (z ++ drop (128 * j + 128 - 128 * j) (drop (128 * j) d))) m (Ok 1)
      unfolding store_next stored
      store_done i z k w l f =
          meets_done (store_conditions c (world_in v d m)) v d m (stored c (world_in v d m)) size e w _ m 1
          (rw (block_lent d j z (next_stored c (core_of (card_in v) c) m) k, l, store_place, i)) (core_place c) 42 f
