-- Paper 02, (d): 'A disk whose master holds 0 there is still recovered by its lists, under (c), and the closing master store of that recovery
-- writes 1.' On every world over such a disk, whatever the card holds and of whatever lengths the slices are, RECOVER does what it did
-- before, bytes 8 to 11 of the closing master apart.
use Prim.Native.Nat.{ℕ, zero, suc, ◌+◌, ◌*◌, ◌≤◌, ◌<◌}
use native.Mathlib.Omega.{arith}
use mathlib.Core.Path.{◌≡◌, refl, sym, ap, ◌∙◌, subst}
use mathlib.Core.Logic.{◌⊎◌, inl, inr}
use mathlib.Core.Bool.{Bool, true, false, true≢false, false≢true, and-true, ◌&&◌}
use mathlib.Core.List.{List, [], ◌∷◌, flat_map, Memᴰ}
use lib.ListN.{length, drop, get_or}
use lib.Seq.{get_or-take, get_or-drop}
use lib.Dec.{eqb}
use borrow.Author.Tests.{ne_eqb}
use Rattle.model.specs.Bytes.{Bytes, bytes, number, part, be4, replaced, block_at, store, padded, words, block}
use Rattle.model.specs.Card.{is_up, fresh_card}
use Rattle.model.specs.Layout.{master_words, master_block, layout_in, has_master_fields, is_master}
use Rattle.model.specs.Valid.{Order}
use Rattle.model.specs.Command.{World, Outcome, refusal, Clear, refused_with, unless, Decided, refused, carried_out}
use Rattle.model.specs.Recovery.{shape_on, layout_on, recover_conditions, recover_conditions_by, blocks_left, brought_up, emptied_tail, recover_step, recovered_by, recovered, recover, recover_by_lists}
use Rattle.model.specs.declared.Shape.{Shape}
use Rattle.model.specs.declared.Tail.{Tail}
use Rattle.model.specs.declared.CommitLayout.{CommitLayout}
use Rattle.model.specs.declared.CommitLayout.TheVariants.{Lists, Numbers}
use Rattle.model.proofs.Store.{part_before, part_after}
use Rattle.model.proofs.Limits.{InRange}
use Rattle.model.proofs.OneStore.{right_lengths, recover_limits, left_below}
use Rattle.model.proofs.Command.{Numbered, refusal_clear, unless_done, unless_refused, unless_decided}

-- ---- a byte outside the part that is replaced
byte_part : (d : Bytes) (i : ℕ) → get_or (part i 1 d) 0 0 ≡ get_or d i 0
unfolding part
byte_part d i =
    let e : i + 0 ≡ i = omega arith in
    get_or-take 1 (drop i d) 0 0 (omega arith) ∙ get_or-drop i d 0 0 ∙ ap (λ (k : ℕ). get_or d k 0) e

pub byte_other : (at n : ℕ) (d b : Bytes) → at + n ≤ length d → length b ≡ n → (i : ℕ) → (i < at) ⊎ (at + n ≤ i) → get_or (replaced at n d b) i 0 ≡ get_or d i 0
byte_other at n d b fits size i h =
    let same : part i 1 (replaced at n d b) ≡ part i 1 d =
    elim h [ inl l ↦ part_before at n d b (omega arith) i 1 (omega arith) | inr g ↦ part_after at n d b fits size i 1 g ] in
    sym (byte_part (replaced at n d b) i) ∙ ap (λ (l : Bytes). get_or l 0 0) same ∙ byte_part d i

-- ---- the two masters
module _ (s : Shape) (tail_at : ℕ → Tail) where
  -- 'Bytes 8 to 11 of a new master hold 1.': they are what is new of it
  pub master_differs : master_block Numbers s tail_at ≡ replaced 8 4 (master_block Lists s tail_at) (bytes 4 1)
  unfolding master_block master_words block padded words flat_map bytes replaced
  master_differs = refl

  master_long : 12 ≤ length (master_block Lists s tail_at)
  unfolding master_block master_words block padded words flat_map bytes
  master_long = omega arith

  -- byte by byte
  pub master_bytes : (i : ℕ) → (i < 8) ⊎ (12 ≤ i) → get_or (master_block Numbers s tail_at) i 0 ≡ get_or (master_block Lists s tail_at) i 0
  master_bytes i h = ap (λ (m : Bytes). get_or m i 0) master_differs ∙ byte_other 8 4 (master_block Lists s tail_at) (bytes 4 1) master_long (unfold bytes in refl) i h

  pub master_word_1 : be4 (master_block Numbers s tail_at) 8 ≡ 1
  unfolding be4 number part master_block master_words block padded words flat_map bytes
  master_word_1 = refl

  -- stored, they differ there too
  stored_differs : (d : Bytes) → store d 0 (master_block Numbers s tail_at) ≡ replaced 8 4 (store d 0 (master_block Lists s tail_at)) (bytes 4 1)
  unfolding store master_block master_words block padded words flat_map bytes replaced
  stored_differs d = refl

  stored_long : (d : Bytes) → 12 ≤ length (store d 0 (master_block Lists s tail_at))
  unfolding store replaced master_block master_words block padded words flat_map bytes
  stored_long d = omega arith

-- ---- RECOVER as it is and as it was
-- a closing store: carried out, and the card is up
abbrev pub is_closing : Outcome World → Bool
is_closing x = eqb x.answer 0 && is_up x.world.card.phase

-- what came of it, and what would have come of it before
pub record RecoversAs (now was : Outcome World) : Type 0 where
  pub answer : now.answer ≡ was.answer
  pub stores : now.stores ≡ was.stores
  pub card : now.world.card ≡ was.world.card
  pub memory : now.world.memory ≡ was.world.memory
  -- refused, or a home store: nothing differs
  pub same : is_closing was ≡ false → now ≡ was
  -- 'the closing master store of that recovery writes 1'
  pub closing : is_closing was ≡ true → now.world.disk ≡ replaced 8 4 was.world.disk (bytes 4 1)
  -- and no other byte differs
  pub others : (i : ℕ) → (i < 8) ⊎ (12 ≤ i) → get_or now.world.disk i 0 ≡ get_or was.world.disk i 0

pub refused_open : (n : ℕ) (w : World) → is_closing (refused_with (suc n) w) ≡ false
refused_open n w = rw (ne_eqb (suc n) 0 (omega arith))

refused_as : (n : ℕ) (w : World) → RecoversAs (refused_with (suc n) w) (refused_with (suc n) w)
refused_as n w =
    record { answer = refl; stores = refl; card = refl; memory = refl; same = λ h. refl; closing = λ h. absurd (false≢true (sym (refused_open n w) ∙ h)); others = λ i h. refl }

unless_as : (ts : List (Bool × ℕ)) (w : World) (now was : Outcome World) → Numbered ts → (Clear ts → RecoversAs now was) → RecoversAs (unless ts w now) (unless ts w was)
unless_as ts w now was p h = go (refusal ts) refl
  where
    go : (n : ℕ) → refusal ts ≡ n → RecoversAs (unless ts w now) (unless ts w was)
    go zero e = rw (unless_done ts w now e, unless_done ts w was e) (h (refusal_clear ts p e))
    go (suc n) e = rw (unless_refused ts w now (suc n) e (omega arith), unless_refused ts w was (suc n) e (omega arith)) (refused_as n w)

step_as : (o : Order) (w : World) (bs : List ℕ) → is_up w.card.phase ≡ false → RecoversAs (recover_step o Lists Numbers bs w) (recover_step o Lists Lists bs w)
unfolding recover_step brought_up fresh_card
step_as o w [] h =
    let s = shape_on w.disk in
    let t = emptied_tail Lists w.disk in
    record {
      answer = refl;
      stores = refl;
      card = refl;
      memory = refl;
      same = λ f. absurd (true≢false f);
      closing = λ c. stored_differs s t w.disk;
      others =
          λ i k.
          ap (λ (d : Bytes). get_or d i 0) (stored_differs s t w.disk)
          ∙ byte_other 8 4 (store w.disk 0 (master_block Lists s t)) (bytes 4 1) (stored_long s t w.disk) (unfold bytes in refl) i k;
    }
step_as o w (b ∷ bs) h =
    record { answer = refl; stores = refl; card = refl; memory = refl; same = λ f. refl; closing = λ c. absurd (true≢false (sym c ∙ h)); others = λ i k. refl }

numbered : (fits : Bytes → Bool) (w : World) → Numbered (recover_conditions_by fits w)
unfolding recover_conditions_by
numbered fits w = (omega arith, (omega arith, (omega arith, (omega arith, tt))))

-- 0 is no value that joins the conditions of 8
older_master : (m : Bytes) → be4 m 8 ≡ 0 → is_master m ≡ has_master_fields m
unfolding is_master
older_master m z = rw z (and-true (has_master_fields m))

older_layout : (d : Bytes) → be4 (block_at d 0) 8 ≡ 0 → layout_on d ≡ Lists
unfolding layout_on layout_in
older_layout d z = rw z

module _ (o : Order) (w : World) (zero_there : be4 (block_at w.disk 0) 8 ≡ 0) where
  older_recover : recover o w ≡ unless (recover_conditions_by has_master_fields w) w (recovered_by o Lists Numbers w)
  unfolding recover recovered recover_conditions_by
  older_recover = rw (older_master (block_at w.disk 0) zero_there, older_layout w.disk zero_there)

  older_as : RecoversAs (unless (recover_conditions_by has_master_fields w) w (recovered_by o Lists Numbers w)) (recover_by_lists o w)
  unfolding recover_by_lists
  older_as =
      unless_as (recover_conditions_by has_master_fields w) w (recovered_by o Lists Numbers w) (recovered_by o Lists Lists w) (numbered has_master_fields w)
      (λ c. unfold recovered_by recover_conditions_by in step_as o w (blocks_left o Lists w) c.1.1.0)

  -- 'A disk whose master holds 0 there is still recovered by its lists': every RECOVER over it is as it was
  pub recovers_as_before : RecoversAs (recover o w) (recover_by_lists o w)
  recovers_as_before = subst (λ (x : Outcome World). RecoversAs x (recover_by_lists o w)) (sym older_recover) older_as

-- ---- until its last store it goes by lists, however often it is cut
pub by_decision : {ts : List (Bool × ℕ)} {w : World} {done x : Outcome World} (P : Outcome World → Type 0) → Decided ts w done x → ((n : ℕ) → P (refused_with (suc n) w))
    → (Clear ts → P done) → P x
by_decision P (refused zero p f e) a b = absurd (omega arith)
by_decision P (refused (suc n) p f e) a b = subst P (sym e) (a n)
by_decision P (carried_out c e) a b = subst P (sym e) (b c)

-- a store of another block leaves the master
pub master_kept : (d : Bytes) (k : ℕ) (b : Bytes) → 1 ≤ k → 128 * k ≤ length d → block_at (store d k b) 0 ≡ block_at d 0
unfolding block_at store
master_kept d k b p l = part_before (128 * k) 128 d b l 0 128 (omega arith)

step_kept : (o : Order) (y z : CommitLayout) (w : World) (bs : List ℕ) → ((b : ℕ) → Memᴰ b bs → b < 256) → length w.disk ≡ 32896 → is_closing (recover_step o y z bs w) ≡ false
    → block_at (recover_step o y z bs w).world.disk 0 ≡ block_at w.disk 0
unfolding recover_step brought_up fresh_card
step_kept o y z w [] f n h = absurd (true≢false h)
step_kept o y z w (b ∷ bs) f n h = master_kept w.disk (1 + b) _ (omega arith) (omega (arith, n, f b (Memᴰ.head refl)))

module _ (o : Order) (w : World) where
  pub recovered_kept : Clear (recover_conditions w) → is_closing (recovered o w) ≡ false → block_at (recovered o w).world.disk 0 ≡ block_at w.disk 0
  unfolding recovered recovered_by
  recovered_kept c =
      let y = layout_on w.disk in
      let l : InRange (shape_on w.disk) = recover_limits w c in
      step_kept o y Numbers w (blocks_left o y w) (λ b m. omega (arith, l.few_blocks, left_below o y w m)) (right_lengths w (unfold recover_conditions_by in c.0)).0

  pub recover_decided : Decided (recover_conditions w) w (recovered o w) (recover o w)
  unfolding recover
  recover_decided = unless_decided (recover_conditions w) w (recovered o w) (numbered is_master w)

  -- a RECOVER that is not the closing one leaves the master
  pub master_stays : is_closing (recover o w) ≡ false → block_at (recover o w).world.disk 0 ≡ block_at w.disk 0
  master_stays =
      by_decision (λ (x : Outcome World). is_closing x ≡ false → block_at x.world.disk 0 ≡ block_at w.disk 0) recover_decided
      (λ n h. refl)
      recovered_kept
