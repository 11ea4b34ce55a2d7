-- The arrays of a card have the lengths that its type gives them; every command keeps them.
use Prim.Native.Nat.{ℕ, zero, suc}
use mathlib.Core.Path.{◌≡◌, refl, ◌∙◌}
use mathlib.Core.Bool.{cond}
use mathlib.Core.List.{List, [], ◌∷◌, map}
use lib.ListN.{length, get_or, set, replicate, length-set, length-map, length-replicate}
use lib.Dec.{leb}
use Rattle.model.specs.Lists.{below, Each}
use Rattle.model.specs.Card.{new_tail, no_holder, no_transaction, taken, with_block, with_name, fresh_core, with_running, fresh_card, empty_card, down_card, core_of, holder_of, with_core, holder_name}
use Rattle.model.specs.Valid.{Order}
use Rattle.model.specs.Command.{World}
use Rattle.model.specs.Format.{formatted}
use Rattle.model.specs.Write.{writer, writer_name, rule_for, takes_block, names_holder, is_named_back, writer_after, written_card, written}
use Rattle.model.specs.Commit.{closed_card, closed, core_stored, stored}
use Rattle.model.specs.Checkpoint.{committed_of, oldest, stored_home, released, retired_card, stored_master, checkpointed, retired_oldest}
use Rattle.model.specs.Recovery.{emptied_tail, brought_up, shape_on, layout_on, blocks_left, recover_step, recovered_by, recovered}
use Rattle.model.proofs.Lists.{length_below}
use Rattle.model.proofs.Command.{of_cond}
use Rattle.model.specs.Tape.{CHECKPOINT, CLOSE, CUT, Command, FORMAT, RECOVER, RETIRE, STORE, WRITE}
use Rattle.model.specs.Step.{done_by}
use Rattle.model.specs.Shape.{new_shape}
use Rattle.model.specs.declared.Phase.{Phase}
use Rattle.model.specs.declared.Phase.TheVariants.{Up, Down}
use Rattle.model.specs.declared.Shape.{Shape}
use Rattle.model.specs.declared.Tail.{Tail}
use Rattle.model.specs.declared.Name.{Name}
use Rattle.model.specs.declared.Transaction.{Transaction}
use Rattle.model.specs.declared.Core.{Core}
use Rattle.model.specs.declared.Card.{Card}
use Rattle.model.specs.declared.CommitLayout.{CommitLayout}
use Rattle.model.specs.declared.CommitLayout.TheVariants.{Numbers}
use Rattle.model.specs.declared.Committed.{Committed}

pub record FitsTransaction (t : Transaction) : Type 0 where
  pub blocks : length t.blocks ≡ 8
  pub highest : length t.highest ≡ 8

pub record FitsCore (k : Core) : Type 0 where
  pub running : FitsTransaction k.running
  pub closed : FitsTransaction k.closed

pub record Arrays (x : Card) : Type 0 where
  pub tails : length x.tails ≡ 8
  pub cores : length x.cores ≡ 8
  pub holders : length x.holders ≡ 64
  pub each : Each FitsCore x.cores

module _ {A : Type 0} (P : A → Type 0) where
  each_set : (xs : List A) (i : ℕ) {a : A} → Each P xs → P a → Each P (set xs i a)
  each_set [] i e p = tt
  each_set (x ∷ xs) zero e p = (p, e.1)
  each_set (x ∷ xs) (suc i) e p = (e.0, each_set xs i e.1 p)

  each_or : (xs : List A) (i : ℕ) {d : A} → Each P xs → P d → P (get_or xs i d)
  each_or [] i e p = p
  each_or (x ∷ xs) zero e p = e.0
  each_or (x ∷ xs) (suc i) e p = each_or xs i e.1 p

  each_map : {B : Type 0} (f : B → A) (ys : List B) → ((y : B) → P (f y)) → Each P (map f ys)
  each_map f [] p = tt
  each_map f (y ∷ ys) p = (p y, each_map f ys p)

none_fits : FitsTransaction no_transaction
none_fits = record { blocks = refl; highest = refl }

fresh_fits : (n : ℕ) → FitsCore (fresh_core n)
fresh_fits n = record { running = none_fits; closed = none_fits }

pub core_fits : (x : Card) → Arrays x → (c : ℕ) → FitsCore (core_of x c)
unfolding core_of
core_fits x a c = each_or FitsCore x.cores c a.each (fresh_fits 0)

core_kept : (x : Card) → Arrays x → (c : ℕ) (k : Core) → FitsCore k → Arrays (with_core x c k)
core_kept x a c k f =
    record { tails = a.tails; cores = length-set x.cores c k ∙ a.cores; holders = a.holders; each = each_set FitsCore x.cores c a.each f }

fresh_arrays : (p : Phase) (s : Shape) (ts : List Tail) → length ts ≡ 8 → Arrays (fresh_card p s ts)
unfolding fresh_card
fresh_arrays p s ts h =
    record {
      tails = h;
      cores = length-map ts (λ (t : Tail). fresh_core t.number) ∙ h;
      holders = length-replicate 64 no_holder;
      each = each_map FitsCore (λ (t : Tail). fresh_core t.number) ts (λ t. fresh_fits t.number);
    }

pub empty_arrays : (p : Phase) → Arrays (empty_card p)
unfolding empty_card
empty_arrays p = fresh_arrays p _ (replicate 8 (new_tail 0 0)) (length-replicate 8 (new_tail 0 0))

-- ---- WRITE
name_fits : (t : Transaction) (n : Name) → FitsTransaction t → FitsTransaction (with_name t n)
unfolding with_name
name_fits t n f = record { blocks = f.blocks; highest = length-set t.highest n.core _ ∙ f.highest }

block_fits : (t : Transaction) (b : ℕ) → FitsTransaction t → FitsTransaction (with_block t b)
block_fits t b f = record { blocks = length-set t.blocks t.count b ∙ f.blocks; highest = f.highest }

writer_fits : (x : Card) → Arrays x → (c b : ℕ) → FitsTransaction (writer_after x c b)
unfolding writer_after writer
writer_fits x a c b =
    let r = rule_for x c b in
    let w : FitsTransaction (writer x c) = of_cond FitsTransaction (core_of x c).running.live (core_fits x a c).running (record { blocks = refl; highest = refl }) in
    let t = of_cond FitsTransaction (names_holder r) (name_fits (writer x c) _ w) w in
    of_cond FitsTransaction (takes_block r) (block_fits _ b t) t

written_arrays : (x : Card) → Arrays x → (c b : ℕ) → Arrays (written_card x c b)
unfolding written_card
written_arrays x a c b =
    let r = rule_for x c b in
    let u = (holder_name (holder_of x b)).core in
    let x₁ = cond (is_named_back r) (with_core x u (with_running (core_of x u) (with_name (core_of x u).running (writer_name x c)))) x in
    let a₁ : Arrays x₁ =
    of_cond Arrays (is_named_back r)
    (core_kept x a u (with_running (core_of x u) (with_name (core_of x u).running (writer_name x c)))
    (record { running = name_fits (core_of x u).running (writer_name x c) (core_fits x a u).running; closed = (core_fits x a u).closed }))
    a in
    let x₂ = with_core x₁ c (with_running (core_of x₁ c) (writer_after x c b)) in
    let a₂ : Arrays x₂ =
    core_kept x₁ a₁ c (with_running (core_of x₁ c) (writer_after x c b)) (record { running = writer_fits x a c b; closed = (core_fits x₁ a₁ c).closed }) in
    of_cond Arrays (takes_block r) (record { tails = a₂.tails; cores = a₂.cores; holders = length-set x₂.holders b _ ∙ a₂.holders; each = a₂.each }) a₂

-- ---- CLOSE, STORE
closed_arrays : (x : Card) → Arrays x → (c : ℕ) → Arrays (closed_card x c)
unfolding closed_card
closed_arrays x a c =
    let f = (core_fits x a c).running in
    record {
      tails = a.tails;
      cores = length-set x.cores c _ ∙ a.cores;
      holders = a.holders;
      each = each_set FitsCore x.cores c a.each (record { running = none_fits; closed = record { blocks = f.blocks; highest = f.highest } });
    }

stored_fits : (k : Core) → FitsCore k → FitsCore (core_stored k)
unfolding core_stored
stored_fits k f =
    of_cond FitsCore (leb k.stored (length (taken k.closed))) (record { running = f.running; closed = f.closed }) (record { running = f.running; closed = none_fits })

-- ---- CHECKPOINT and RETIRE
retired_arrays : (x : Card) → Arrays x → (c : ℕ) (e : Committed) → Arrays (retired_card c e x)
unfolding retired_card released
retired_arrays x a c e =
    let f = core_fits x a c in
    record {
      tails = length-set x.tails c _ ∙ a.tails;
      cores = length-set x.cores c _ ∙ a.cores;
      holders = length-map x.holders _ ∙ a.holders;
      each = each_set FitsCore x.cores c a.each (record { running = f.running; closed = f.closed });
    }

checkpointed_arrays : (c : ℕ) (w : World) → Arrays w.card → Arrays (checkpointed c w).world.card
unfolding checkpointed stored_home
checkpointed_arrays c w a = let f = core_fits w.card a c in core_kept w.card a c _ (record { running = f.running; closed = f.closed })

retired_now_arrays : (c : ℕ) (w : World) → Arrays w.card → Arrays (retired_oldest c w).world.card
unfolding retired_oldest stored_master
retired_now_arrays c w a = retired_arrays w.card a c (oldest (committed_of w c))

-- ---- RECOVER
module _ (o : Order) where
  recover_step_arrays : (y z : CommitLayout) (bs : List ℕ) (w : World) → Arrays w.card → Arrays (recover_step o y z bs w).world.card
  unfolding recover_step brought_up
  recover_step_arrays y z [] w a = fresh_arrays Up (shape_on w.disk) (map (emptied_tail y w.disk) (below 8)) (length-map (below 8) (emptied_tail y w.disk) ∙ length_below 8)
  recover_step_arrays y z (b ∷ bs) w a = record { tails = a.tails; cores = a.cores; holders = a.holders; each = a.each }

  pub done_arrays : (k : Command) (w : World) → Arrays w.card → Arrays (done_by o k w).world.card
  unfolding done_by formatted written closed stored recovered recovered_by down_card
  done_arrays (FORMAT c b j) w f = fresh_arrays Up (new_shape c b j) (replicate 8 (new_tail 1 0)) (length-replicate 8 (new_tail 1 0))
  done_arrays (WRITE task c b i v) w f = written_arrays w.card f c b
  done_arrays (CLOSE c) w f = closed_arrays w.card f c
  done_arrays (STORE c) w f = core_kept w.card f c (core_stored (core_of w.card c)) (stored_fits (core_of w.card c) (core_fits w.card f c))
  done_arrays (CHECKPOINT c) w f = checkpointed_arrays c w f
  done_arrays CUT w f = empty_arrays Down
  done_arrays RECOVER w f = recover_step_arrays (layout_on w.disk) Numbers (blocks_left o (layout_on w.disk) w) w f
  done_arrays (RETIRE c) w f = retired_now_arrays c w f
