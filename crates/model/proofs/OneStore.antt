-- Each command carried out, save FORMAT, leaves the disk as it was or replaces one block: the master, a home block below
-- B, or a position of the journal of a core below C. What is stored is a block, for slices and arrays of their lengths; which one,
-- `next_store` says before.
use Prim.Native.Nat.{ℕ, ◌-◌, ◌≤◌, ◌<◌}
use native.Mathlib.Omega.{arith}
use mathlib.Core.Path.{◌≡◌, refl, ◌∙◌}
use mathlib.Core.Bool.{Bool, true, false, true≢false, ◌&&◌}
use mathlib.Core.List.{List, [], ◌∷◌, Memᴰ}
use lib.ListN.{length, length-map, length-take}
use lib.Dec.{ltb, leb, eqb}
use borrow.Author.Tests.{ltb-true, leb-true, leb-false, eqb-true, eq-eqb, not-false}
use Rattle.model.specs.Bytes.{Bytes, be4, block_at}
use Rattle.model.specs.Shape.{in_range, home_block, journal_block, new_shape}
use Rattle.model.specs.Card.{taken, highest_of, shape_of, tail_of, core_of, committed_count}
use Rattle.model.specs.Layout.{mark, has_master_fields, is_master, shape_in}
use Rattle.model.specs.Valid.{Order, blocks_held, newest}
use Rattle.model.specs.Command.{World, Outcome, BlockStore, DiskStore, no_store, one_store, with_store, count_of, wrong_length, no_core, Clear, Decided, refused, carried_out}
use Rattle.model.specs.Format.{format_conditions, formatted, format}
use Rattle.model.specs.Write.{written}
use Rattle.model.specs.Commit.{closed, copy_block, copy_tags, closed_number, store_conditions, stored, next_stored, next_position, record_store}
use Rattle.model.specs.Checkpoint.{committed_of, oldest, checkpoint_conditions, home_store, stored_home, master_store, stored_master, retired_card, checkpointed, retired_oldest, found_conditions, committed_conditions}
use Rattle.model.specs.Recovery.{shape_on, tail_on, layout_on, committed_by, valid_on_by, recover_conditions, recover_conditions_by, blocks_left, image_found, newest_image, emptied_tail, recover_store, recover_step, recovered_by, recovered}
use Rattle.model.specs.Step.{step_by, conditions_of, done_by, next_store}
use Rattle.model.proofs.Limits.{InRange, clamped_range, range_test}
use Rattle.model.proofs.Lists.{cases, and_left, and_right, mem_below, length_below, mem_each}
use Rattle.model.proofs.Store.{length_block_at}
use Rattle.model.proofs.Encoding.{length_master, length_descriptor, length_commit, length_escaped}
use Rattle.model.proofs.Journal.{journal_low}
use Rattle.model.proofs.Records.{known_below, journal_known, journals_known, oldest_mem, length_image_of, IfFound, newest_holds}
use Rattle.model.proofs.Select.{select_mem}
use Rattle.model.proofs.Valid.{valid_within}
use Rattle.model.proofs.Command.{clear_refusal, unless_done, of_cond, step_decided}
use Rattle.model.proofs.Arrays.{FitsTransaction, FitsCore, Arrays, core_fits}
use Rattle.model.specs.Tape.{CHECKPOINT, CLOSE, CUT, Command, FORMAT, RECOVER, RETIRE, STORE, WRITE}
use Rattle.model.specs.declared.Shape.{Shape}
use Rattle.model.specs.declared.Transaction.{Transaction}
use Rattle.model.specs.declared.Core.{Core}
use Rattle.model.specs.declared.Card.{Card}
use Rattle.model.specs.declared.CommitLayout.{CommitLayout}
use Rattle.model.specs.declared.CommitLayout.TheVariants.{Numbers}
use Rattle.model.specs.declared.Committed.{Committed}
use Rattle.std.specs.Prelude.{Option, Some, None}

-- ---- shapes within the limits
pub shape_limits : (x : Card) → InRange (shape_of x)
unfolding shape_of
shape_limits x = clamped_range x.shape

pub master_limits : (m : Bytes) → is_master m ≡ true → InRange (shape_in m)
unfolding is_master has_master_fields
master_limits m h = range_test (shape_in m) (and_right (eqb (be4 m 0) mark && eqb (be4 m 4) 4) _ (and_left _ _ (and_left _ _ h)))

-- slices of the lengths that 1 asks for
pub right_lengths : (w : World) → wrong_length w ≡ false → (length w.disk ≡ 32896) × (length w.memory ≡ 16384)
unfolding wrong_length
right_lengths w h =
    cases (eqb (length w.disk) 32896)
    (λ a. cases (eqb (length w.memory) 16384)
    (λ b. (eqb-true _ _ a, eqb-true _ _ b))
    (λ b. let z : true ≡ false = rw (a, b) at h in absurd (true≢false z)))
    (λ a. let z : true ≡ false = rw a at h in absurd (true≢false z))

pub lengths_right : (w : World) → length w.disk ≡ 32896 → length w.memory ≡ 16384 → wrong_length w ≡ false
unfolding wrong_length
lengths_right w d m = rw (eq-eqb (length w.disk) 32896 d, eq-eqb (length w.memory) 16384 m)

-- ---- what a command stores
pub data StorePlace (s : Shape) : ℕ → Type 0 where
  master : StorePlace s 0
  home : {b : ℕ} → b < s.blocks → StorePlace s (home_block b)
  position : {c : ℕ} → c < s.cores → (p : ℕ) → StorePlace s (journal_block s c p)

-- nothing, or a block at such a place
pub data StoreFits (s : Shape) : DiskStore → Type 0 where
  none_stored : StoreFits s no_store
  one_stored : {b : BlockStore} → StorePlace s b.place → length b.bytes ≡ 128 → StoreFits s (one_store b)

-- the disk afterwards is the one before with this made, and no more; the stores are counted so
pub record Makes (b : DiskStore) (w : World) (o : Outcome World) : Type 0 where
  pub disk : o.world.disk ≡ with_store b w.disk
  pub stores : o.stores ≡ count_of b

pub record OneStore (s : Shape) (w : World) (o : Outcome World) : Type 0 where
  pub made : DiskStore
  pub fits : StoreFits s made
  pub makes : Makes made w o

pub store_place_low : {s : Shape} {k : ℕ} → InRange s → StorePlace s k → k < 257
store_place_low l master = omega arith
store_place_low l (home h) = omega arith
store_place_low l (position h p) = journal_low l _ p h

pub fits_place : {s : Shape} {b : BlockStore} → StoreFits s (one_store b) → StorePlace s b.place
fits_place (one_stored p h) = p

-- ---- STORE
pub few_taken : (t : Transaction) → FitsTransaction t → length (taken t) ≤ 8
unfolding taken
few_taken t f = simp length-take (omega arith)

length_copy_tags : (c : ℕ) (bs : List ℕ) (m : Bytes) → length (copy_tags c bs m) ≡ length bs
unfolding copy_tags
length_copy_tags c bs m = simp (length-map, length_below)

length_next_stored : (c : ℕ) (k : Core) (m : Bytes) → FitsCore k → c < 8 → length m ≡ 16384 → length (next_stored c k m) ≡ 128
unfolding next_stored copy_block
length_next_stored c k m f h n =
    let t = k.closed in
    let l = few_taken t f.closed in
    let g : length (copy_tags c (taken t) m) ≤ 8 = rw length_copy_tags l in
    of_cond (λ (b : Bytes). length b ≡ 128) (eqb k.stored 0) (length_descriptor (closed_number k) (copy_tags c (taken t) m) g)
    (cases (leb k.stored (length (taken t)))
    (λ a.
    let j : k.stored ≤ length (taken t) = leb-true _ _ a in
    let b = block_at m (copy_block c (k.stored - 1)) in
    let q : length b ≡ 128 = length_block_at 128 m n (copy_block c (k.stored - 1)) (omega arith) in
    rw a (length_escaped b (omega arith) ∙ q))
    (λ a. rw a (length_commit (closed_number k) t.stamp (highest_of t))))

module _ (c : ℕ) (w : World) where
  store_core : Clear (store_conditions c w) → c < (shape_of w.card).cores
  unfolding store_conditions no_core
  store_core cl = leb-false _ c cl.1.1.1.0

  pub record_place : Clear (store_conditions c w) → StorePlace (shape_of w.card) (record_store c w).place
  record_place cl = position (store_core cl) (next_position w.card c)

  record_fits : Arrays w.card → Clear (store_conditions c w) → StoreFits (shape_of w.card) (one_store (record_store c w))
  unfolding store_conditions
  record_fits a cl =
      let l = shape_limits w.card in
      one_stored (record_place cl)
      (length_next_stored c (core_of w.card c) w.memory (core_fits w.card a c) (omega (arith, store_core cl)) (right_lengths w cl.0).1)

  pub home_fits : (o : Order) → Clear (checkpoint_conditions o c w) → StoreFits (shape_of w.card) (one_store (home_store c (oldest (committed_of w c)) w))
  unfolding checkpoint_conditions no_core committed_conditions found_conditions
  home_fits o cl =
      let e = oldest (committed_of w c) in
      let i = (core_of w.card c).homed in
      let s = shape_of w.card in
      let l = shape_limits w.card in
      let g : c < s.cores = leb-false s.cores c cl.1.1.1.0 in
      let b : i < e.count = ltb-true i e.count (not-false (ltb i e.count) cl.1.1.1.1.1.1.1.0) in
      let r = journal_known Numbers s w.disk c (tail_of w.card c) (committed_count w.card c) e (unfold committed_of in oldest_mem (committed_of w c) i b) in
      one_stored (home (known_below Numbers s w.disk c _ e r.1 i b)) (length_image_of l w.disk (right_lengths w cl.0).0 e i (omega (arith, r.1.core)))

master_fits : (s : Shape) (x : Card) → StoreFits s (one_store (master_store x))
master_fits s x = one_stored master (length_master Numbers (shape_limits x) (tail_of x))

-- ---- RECOVER
module _ (d : Bytes) (l : InRange (shape_on d)) (n : length d ≡ 32896) where
  length_image_found : (b : ℕ) (f : Option Committed) → b < (shape_on d).blocks → IfFound (λ (e : Committed). e.core < (shape_on d).cores) f → length (image_found d b f) ≡ 128
  unfolding image_found
  length_image_found b None h p = length_block_at 257 d n (home_block b) (omega (arith, l.few_blocks))
  length_image_found b (Some e) h p = length_image_of l d n e _ p

-- what is read is of a core below C
pub committed_cores : (y : CommitLayout) (d : Bytes) (e : Committed) → Memᴰ e (committed_by y d) → e.core < (shape_on d).cores
unfolding committed_by
committed_cores y d e m = (journals_known y (shape_on d) d (tail_on d) _ e m).0

module _ (o : Order) (y : CommitLayout) (d : Bytes) where
  pub valid_cores : (e : Committed) → Memᴰ e (valid_on_by o y d) → e.core < (shape_on d).cores
  unfolding valid_on_by
  valid_cores e m = committed_cores y d e (valid_within o y (shape_on d) d (tail_on d) (committed_by y d) e m)

  pub newest_core : (b : ℕ) → IfFound (λ (e : Committed). e.core < (shape_on d).cores) (newest (shape_on d) d b None (valid_on_by o y d))
  newest_core b = newest_holds _ (shape_on d) d b (valid_on_by o y d) None tt (mem_each _ (valid_on_by o y d) valid_cores)

  pub length_newest_image : InRange (shape_on d) → length d ≡ 32896 → (b : ℕ) → b < (shape_on d).blocks → length (newest_image o y d b) ≡ 128
  unfolding newest_image
  length_newest_image l n b h = length_image_found d l n b _ h (newest_core b)

pub recover_limits : (w : World) → Clear (recover_conditions w) → InRange (shape_on w.disk)
unfolding recover_conditions_by shape_on
recover_limits w cl = master_limits (block_at w.disk 0) (not-false (is_master (block_at w.disk 0)) cl.1.1.1.0)

-- the blocks left to recovery are below B
pub left_below : (o : Order) (y : CommitLayout) (w : World) {b : ℕ} → Memᴰ b (blocks_left o y w) → b < (shape_on w.disk).blocks
unfolding blocks_left blocks_held
left_below o y w {b} m = mem_below _ (select_mem _ _ b (select_mem _ _ b m).0).0

module _ (o : Order) (y z : CommitLayout) (w : World) where
  recover_fits : InRange (shape_on w.disk) → length w.disk ≡ 32896 → (bs : List ℕ) → ((b : ℕ) → Memᴰ b bs → b < (shape_on w.disk).blocks)
      → StoreFits (shape_on w.disk) (one_store (recover_store o y z bs w.disk))
  recover_fits l n [] f = one_stored master (length_master z l (emptied_tail y w.disk))
  recover_fits l n (b ∷ bs) f = let h = f b (Memᴰ.head refl) in one_stored (home h) (length_newest_image o y w.disk l n b h)

  left_fits : Clear (recover_conditions w) → StoreFits (shape_on w.disk) (one_store (recover_store o y z (blocks_left o y w) w.disk))
  left_fits cl =
      recover_fits (recover_limits w cl) (right_lengths w (unfold recover_conditions_by in cl.0)).0 (blocks_left o y w) (λ b m. left_below o y w m)

-- ---- every command but FORMAT
abbrev pub is_format : Command → Bool
is_format (FORMAT c b j) = true
is_format (WRITE task c b o v) = false
is_format (CLOSE c) = false
is_format (STORE c) = false
is_format (CHECKPOINT c) = false
is_format CUT = false
is_format RECOVER = false
is_format (RETIRE c) = false

-- the shape that a command stores by: that of the card, and for RECOVER that of the disk's master
unfoldable pub stored_shape : Command → World → Shape
stored_shape (FORMAT c b j) w = shape_of w.card
stored_shape (WRITE task c b o v) w = shape_of w.card
stored_shape (CLOSE c) w = shape_of w.card
stored_shape (STORE c) w = shape_of w.card
stored_shape (CHECKPOINT c) w = shape_of w.card
stored_shape CUT w = shape_of w.card
stored_shape RECOVER w = shape_on w.disk
stored_shape (RETIRE c) w = shape_of w.card

decided_store : {ts : List (Bool × ℕ)} {w : World} {done o : Outcome World} (s : Shape) → Decided ts w done o → (Clear ts → OneStore s w done) → OneStore s w o
decided_store {w = w} s (refused n p f e) h = rw e (record { made = no_store; fits = none_stored; makes = record { disk = refl; stores = refl } })
decided_store s (carried_out c e) h = rw e (h c)

module _ (o : Order) where
  recover_step_makes : (y z : CommitLayout) (bs : List ℕ) (w : World) → Makes (one_store (recover_store o y z bs w.disk)) w (recover_step o y z bs w)
  unfolding recover_step
  recover_step_makes y z [] w = record { disk = refl; stores = refl }
  recover_step_makes y z (b ∷ bs) w = record { disk = refl; stores = refl }

  -- what is carried out is the store that comes next
  pub done_makes : (k : Command) (w : World) → Makes (next_store o k w) w (done_by o k w)
  unfolding next_store done_by formatted written closed stored checkpointed stored_home retired_oldest stored_master recovered recovered_by
  done_makes (FORMAT c b j) w = record { disk = refl; stores = refl }
  done_makes (WRITE task c b i v) w = record { disk = refl; stores = refl }
  done_makes (CLOSE c) w = record { disk = refl; stores = refl }
  done_makes (STORE c) w = record { disk = refl; stores = refl }
  done_makes (CHECKPOINT c) w = record { disk = refl; stores = refl }
  done_makes CUT w = record { disk = refl; stores = refl }
  done_makes RECOVER w = let y = layout_on w.disk in recover_step_makes y Numbers (blocks_left o y w) w
  done_makes (RETIRE c) w = record { disk = refl; stores = refl }

  -- and, save FORMAT's, of one block at most
  pub next_fits : (k : Command) (w : World) → Arrays w.card → is_format k ≡ false → Clear (conditions_of o k w) → StoreFits (stored_shape k w) (next_store o k w)
  unfolding conditions_of next_store stored_shape
  next_fits (FORMAT c b j) w f h cl = absurd (true≢false h)
  next_fits (WRITE task c b i v) w f h cl = none_stored
  next_fits (CLOSE c) w f h cl = none_stored
  next_fits (STORE c) w f h cl = record_fits c w f cl
  next_fits (CHECKPOINT c) w f h cl = home_fits c w o cl
  next_fits CUT w f h cl = none_stored
  next_fits RECOVER w f h cl = left_fits o (layout_on w.disk) Numbers w cl
  next_fits (RETIRE c) w f h cl = master_fits (shape_of w.card) (retired_card c (oldest (committed_of w c)) w.card)

  pub done_store : (k : Command) (w : World) → Arrays w.card → is_format k ≡ false → Clear (conditions_of o k w) → OneStore (stored_shape k w) w (done_by o k w)
  done_store k w f h cl = record { made = next_store o k w; fits = next_fits k w f h cl; makes = done_makes k w }

  pub stored_limits : (k : Command) (w : World) → Clear (conditions_of o k w) → InRange (stored_shape k w)
  unfolding conditions_of stored_shape
  stored_limits (FORMAT c b j) w cl = shape_limits w.card
  stored_limits (WRITE task c b i v) w cl = shape_limits w.card
  stored_limits (CLOSE c) w cl = shape_limits w.card
  stored_limits (STORE c) w cl = shape_limits w.card
  stored_limits (CHECKPOINT c) w cl = shape_limits w.card
  stored_limits CUT w cl = shape_limits w.card
  stored_limits RECOVER w cl = recover_limits w cl
  stored_limits (RETIRE c) w cl = shape_limits w.card

  -- a command, refused or carried out, stores one block at most
  pub step_store : (k : Command) (w : World) → Arrays w.card → is_format k ≡ false → OneStore (stored_shape k w) w (step_by o k w)
  step_store k w f h = decided_store (stored_shape k w) (step_decided o k w) (done_store k w f h)

-- FORMAT carried out
pub format_done : (c b j : ℕ) (w : World) → Clear (format_conditions c b j w) → format c b j w ≡ formatted (new_shape c b j)
unfolding format
format_done c b j w cl = unless_done (format_conditions c b j w) w _ (clear_refusal (format_conditions c b j w) cl)

pub format_limits : (c b j : ℕ) (w : World) → Clear (format_conditions c b j w) → InRange (new_shape c b j)
unfolding format_conditions
format_limits c b j w cl = range_test (new_shape c b j) (not-false (in_range c b j) cl.1.1.0)
