-- The cells after WRITE, in their steps: the holder's transaction with the writer's name, the writer's with the holder's name
-- and the block, the holder of the block. Together they are the card after WRITE; room for the block asked before is room at its step.
use Rattle.model.proofs.Base.{ℕ, ◌-◌, ◌%◌, ◌<◌, arith, ◌≡◌, refl, sym, ap, ◌∙◌, Bool, true, false, not, false≢true, List}
use Rattle.model.proofs.Base.{get_or-set_other, eqb, eq-eqb, eqb-true, leb-false, not-false}
use Rattle.model.specs.Card.{new_name, same_name, fresh_core, with_name, with_running, with_core, core_of, holder_of, is_held, holder_name}
use Rattle.model.specs.Write.{writer, writer_name, is_running_in, rule_for, takes_block, takes_past, is_named_back, writer_after, written_card}
use Rattle.model.specs.Limits.{max_taken}
use Rattle.model.specs.declared.Name.{Name}
use Rattle.model.specs.declared.Transaction.{Transaction}
use Rattle.model.specs.declared.Card.{Card}
use Rattle.model.specs.declared.Rule.{Rule}
use Rattle.model.proofs.Lists.{cases, and_right}
use Rattle.cells.specs.Cells.{transaction_in, card_in, holder_place, running_place}
use Rattle.cells.specs.Changes.{opened_or, Frame}
use Rattle.cells.proofs.CellLaws.{running_put}
use Rattle.cells.proofs.FitsLaws.{frame_then, frame_wider}
use Rattle.rules.specs.Conditions.{rule_met, named_by, taken_by, after_by}
use Rattle.rules.specs.declared.RuleMet.{RuleMet}
use Rattle.cells.proofs.ReadLaws.{running_there}
use Rattle.rules.proofs.RuleLaws.{cond_done}
use Rattle.rules.proofs.RoomLaws.{named_count}
use Rattle.transaction.specs.Writing.{named_back, held_by}

-- ---- a core's running transaction, changed at its place
module _ (c : ℕ) (h : c < 8) (p : ℕ) (e : p ≡ running_place c) where
  pub place_of : (p - 87) % 42 % 19 ≡ 4
  place_of = let z : (p - 87) % 42 ≡ 4 = omega arith in rw z

  module _ (v w : List ℕ) (b : Frame v w p 19) where
    pub running_after : (t : Transaction) → transaction_in w p ≡ t → card_in w ≡ with_core (card_in v) c (with_running (core_of (card_in v) c) t)
    running_after t q =
        running_put v w c h (rw e at b)
        ∙ ap (λ (a : Transaction). with_core (card_in v) c (with_running (core_of (card_in v) c) a)) (ap (transaction_in w) (sym e) ∙ q)

    pub frame_all : Frame v w 0 423
    frame_all = frame_wider v w p 19 0 423 b (omega arith) (omega arith)

-- ---- the holder
module _ (v : List ℕ) (n own : Name) (h : n.core < 8) (p : ℕ) (e : p ≡ running_place n.core) (r : Rule) (g : Bool) (q : g ≡ is_named_back r) where
  pub back_done : (w : List ℕ) → transaction_in w p ≡ with_name (transaction_in v p) own → Frame v w p 19 → not g ≡ false → card_in w ≡ named_back r (card_in v) n.core own
  unfolding named_back
  back_done w s b z =
      cond_done g _ q _ _ (card_in w)
      (running_after n.core h p e v w b _ (s ∙ ap (λ (t : Transaction). with_name t own) (running_there v n.core h p e))) z

-- ---- the writer
pub block_room : (r : Rule) (t : Transaction) (g : Bool) → g ≡ takes_block r → takes_past max_taken r t ≡ false → not g ≡ false → t.count < 8
block_room r t g q m z = leb-false 8 t.count (rw (← q, not-false g z) at m)

module _ (v : List ℕ) (f : RuleMet) (h : f.core < 8) (p : ℕ) (e : p ≡ running_place f.core) (u : List ℕ) (i : transaction_in u p ≡ opened_or (transaction_in v p)) where
  writer_open : transaction_in u p ≡ writer (card_in v) f.core
  unfolding opened_or writer
  writer_open = i ∙ rw (running_there v f.core h p e)

  module _ (w : List ℕ) (j : transaction_in w p ≡ named_by f.rule (transaction_in u p) f.holder) where
    pub count_room : takes_past max_taken f.rule (writer (card_in v) f.core) ≡ false → takes_past max_taken f.rule (transaction_in w p) ≡ false
    count_room m =
        let k : (transaction_in w p).count ≡ (writer (card_in v) f.core).count =
        ap (λ (t : Transaction). t.count) j ∙ named_count f.rule (transaction_in u p) f.holder ∙ ap (λ (t : Transaction). t.count) writer_open in
        rw k m

    pub own_written : (z : List ℕ) → transaction_in z p ≡ taken_by f.rule (transaction_in w p) f.block → Frame v u p 19 → Frame u w p 19 → Frame w z p 19
        → (card_in z ≡ with_core (card_in v) f.core (with_running (core_of (card_in v) f.core) (after_by (card_in v) f))) × Frame v z 0 423
    own_written z l g k m =
        let d : Frame v z p 19 = frame_then w z v p 19 (frame_then u w v p 19 g k) m in (
          running_after f.core h p e v z d _ (l ∙ ap (λ (t : Transaction). taken_by f.rule t f.block) (j ∙ ap (λ (t : Transaction). named_by f.rule t f.holder) writer_open)),
          frame_all f.core h p e v z d,
        )

-- ---- the block's holder
pub holder_all : (v w : List ℕ) (b : ℕ) → b < 64 → Frame v w (holder_place b) 1 → Frame v w 0 423
holder_all v w b h f = frame_wider v w (holder_place b) 1 0 423 f (omega arith) (omega arith)

-- ---- the three steps
-- a transaction that is named back is of another core
same_parts : (n : Name) (c k : ℕ) → n.core ≡ c → n.number ≡ k → same_name n (new_name c k) ≡ true
unfolding same_name
same_parts n c k p q = rw (p, q, eq-eqb c c refl, eq-eqb k k refl)

runs_number : (x : Card) (n : Name) (c : ℕ) → n.core ≡ c → is_running_in x n ≡ true → n.number ≡ (core_of x c).next
unfolding is_running_in
runs_number x n c e i = sym (eqb-true _ _ (and_right (core_of x n.core).running.live (eqb (core_of x n.core).next n.number) i)) ∙ ap (λ (k : ℕ). (core_of x k).next) e

other_core : (x : Card) (c b : ℕ) → is_named_back (rule_for x c b) ≡ true → (holder_name (holder_of x b)).core ≡ c → ⊥
unfolding rule_for is_running_in writer_name
other_core x c b h e =
    cases (not (is_held (holder_of x b)))
    (λ t. false≢true (rw t at h))
    (λ t. cases (same_name (holder_name (holder_of x b)) (writer_name x c))
    (λ s. false≢true (rw (t, s) at h))
    (λ s. cases (is_running_in x (holder_name (holder_of x b)))
    (λ i. false≢true (sym s ∙ same_parts (holder_name (holder_of x b)) c (core_of x c).next e (runs_number x (holder_name (holder_of x b)) c e i)))
    (λ i. false≢true (rw (t, s, i) at h))))

module _ (x : Card) (f : RuleMet) (e : f ≡ rule_met x f.core f.block) where
  rule_is : f.rule ≡ rule_for x f.core f.block
  rule_is = ap (λ (a : RuleMet). a.rule) e

  holder_is : f.holder ≡ holder_name (holder_of x f.block)
  holder_is = ap (λ (a : RuleMet). a.holder) e

  own_is : f.own ≡ writer_name x f.core
  own_is = ap (λ (a : RuleMet). a.own) e

  core_beside : core_of (named_back f.rule x f.holder.core f.own) f.core ≡ core_of x f.core
  unfolding named_back core_of
  core_beside =
      cases (is_named_back f.rule)
      (λ t. rw t (get_or-set_other x.cores f.holder.core f.core _ (fresh_core 0)
      (λ k. other_core x f.core f.block (ap is_named_back (sym rule_is) ∙ t) (ap (λ (a : Name). a.core) (sym holder_is) ∙ sym k))))
      (λ t. rw t)

  module _ (y : Card) (i : y ≡ named_back f.rule x f.holder.core f.own) where
    same_core : core_of y f.core ≡ core_of x f.core
    same_core = ap (λ (k : Card). core_of k f.core) i ∙ core_beside

    same_writer : writer y f.core ≡ writer x f.core
    unfolding writer
    same_writer = rw same_core

    pub block_fits : takes_past max_taken f.rule (writer x f.core) ≡ false → takes_past max_taken f.rule (writer y f.core) ≡ false
    block_fits m = rw same_writer m

    writer_made : after_by y f ≡ writer_after x f.core f.block
    unfolding taken_by named_by writer_after
    writer_made = rw (same_writer, holder_is, rule_is)

    pub state_written : (z : Card) → z ≡ with_core y f.core (with_running (core_of y f.core) (after_by y f)) → (t : Card) → t ≡ held_by f.rule z f.block f.own → t ≡ written_card x f.core f.block
    unfolding written_card named_back held_by
    state_written z j t k = k ∙ rw (j, writer_made, i, own_is, holder_is, rule_is)
