-- WRITE meets entry, block and offset first. Memory afterwards is the image, loaded where the rule says so, with four bytes
-- replaced. Refused, or carried out, WRITE meets its contract.
use Rattle.model.proofs.Base.{ℕ, ◌+◌, ◌-◌, ◌*◌, ◌≤◌, ◌<◌, arith, add-one, ◌≡◌, refl, sym, ap, ◌∙◌, Bool, false, cond, not}
use Rattle.model.proofs.Base.{List, [], ◌∷◌, length, take, drop, get_or, set, ltb, leb, lt-ltb, le-ltb, ltb-false, leb-false}
use Rattle.model.proofs.Base.{Bytes}
use native.Mathlib.Numerals.{add-two, add-three}
use Rattle.model.specs.Bytes.{part, block_at, store, replaced}
use Rattle.model.specs.Shape.{home_block}
use Rattle.model.specs.Card.{shape_of}
use Rattle.model.specs.Limits.{max_taken}
use Rattle.model.specs.Command.{World, refusal, no_core, no_block, Clear}
use Rattle.model.specs.Write.{writer, takes_past, writer_name, loads_image, journal_full, write_conditions, writer_after, written_card, written_memory, written, write}
use Rattle.model.specs.declared.Card.{Card}
use Rattle.model.specs.declared.Rule.{Rule}
use Rattle.model.proofs.Command.{Numbered, refusal_clear}
use Rattle.model.proofs.OneStore.{shape_limits, right_lengths}
use Rattle.layout.proofs.Blocks.{sets_replaced}
use Rattle.cells.specs.Answer.{first_of, Meets}
use Rattle.cells.specs.Cells.{world, world_in, card_in}
use Rattle.cells.specs.Changes.{Frame}
use Rattle.cells.proofs.RefusalLaws.{first_hit, first_pass, handed_on, refusal_joined, refusal_next, refusal_one}
use Rattle.cells.proofs.EntryLaws.{entry, entry_hit, entry_pass}
use Rattle.cells.proofs.MeetLaws.{meets_handed, meets_done}
use Rattle.std.specs.Prelude.{Result, Ok, Err}
use Rattle.model.specs.Refusal.{number_of, answer_of}
use Rattle.model.specs.declared.Refusal.{Refusal}
use Rattle.model.proofs.RefusalNumbers.{number_not_0}
use Rattle.rules.specs.Conditions.{rule_met, named_by, taken_by, room_conditions}
use Rattle.rules.specs.declared.RuleMet.{RuleMet}
use Rattle.rules.proofs.RuleLaws.{cond_done}
use Rattle.transaction.specs.Writing.{first_conditions, Unrefused, loaded_by}

-- ---- what it meets first
module _ (x : Card) (c b o : ℕ) (d m : Bytes) where
  abbrev operands : List (Bool × ℕ)
  operands = (no_block (world x d m) b, 6) ∷ (ltb 124 o, 7) ∷ []

  pub first_entry : {A : Type 0} (r : Result A Refusal) (e : Refusal) → number_of e ≡ refusal (entry c (world x d m)) → r ≡ Err e
      → answer_of r ≡ refusal (first_conditions c b o (world x d m))
  first_entry r e q h = entry_hit c (world x d m) operands r e q h

  module _ (h : 0 ≡ refusal (entry c (world x d m))) where
    -- block, then offset
    operand_stages : first_of (cond (leb (shape_of x).blocks b) 6 0) (cond (ltb 124 o) 7 0) ≡ refusal operands
    unfolding no_block
    operand_stages = sym (refusal_next _ 6 ((ltb 124 o, 7) ∷ []) (omega arith) ∙ ap (first_of _) (refusal_one _ 7))

    passed_entry : (n : ℕ) → n ≡ first_of (cond (leb (shape_of x).blocks b) 6 0) (cond (ltb 124 o) 7 0) → n ≡ refusal (first_conditions c b o (world x d m))
    passed_entry n s = entry_pass c (world x d m) operands h n (s ∙ operand_stages)

    pub first_block : {A : Type 0} (r : Result A Refusal) (e : Refusal) → number_of e ≡ cond (leb (shape_of x).blocks b) 6 0 → r ≡ Err e
        → answer_of r ≡ refusal (first_conditions c b o (world x d m))
    first_block r e q z = passed_entry (answer_of r) (handed_on r e _ _ q z)

    module _ (z : ◌≡◌ {A = ℕ} 0 (cond (leb (shape_of x).blocks b) 6 0)) where
      pub first_offset : 124 < o → 7 ≡ refusal (first_conditions c b o (world x d m))
      first_offset l = passed_entry 7 (first_pass 0 7 _ _ z refl (rw (lt-ltb 124 o l)))

      pub first_none : o ≤ 124 → 0 ≡ refusal (first_conditions c b o (world x d m))
      first_none l = passed_entry 0 (first_pass 0 0 _ _ z refl (rw (le-ltb 124 o l)))

first_numbered : (c b o : ℕ) (w : World) → Numbered (first_conditions c b o w)
first_numbered c b o w = (omega arith, (omega arith, (omega arith, (omega arith, (omega arith, (omega arith, tt))))))

pub passed : (x : Card) (c b o : ℕ) (d m : Bytes) → 0 ≡ refusal (first_conditions c b o (world x d m)) → Unrefused x c b o d m
unfolding no_core no_block
passed x c b o d m e =
    let k : Clear (first_conditions c b o (world x d m)) = refusal_clear _ (first_numbered c b o (world x d m)) (sym e) in
    let l = right_lengths (world x d m) k.0 in
    record {
      none = sym e;
      core = omega (arith, leb-false _ c k.1.1.1.0, (shape_limits x).few_cores);
      within = record {
        disk = l.0;
        memory = l.1;
        block = omega (arith, leb-false _ b k.1.1.1.1.0, (shape_limits x).few_blocks);
        offset = ltb-false 124 o k.1.1.1.1.1.0;
      };
    }

-- ---- memory
pub image_loaded : (d m ys : Bytes) (b k : ℕ) → k ≡ home_block b → ys ≡ take (128 * k + 128 - 128 * k) (drop (128 * k) d) → (r : Rule) (g : Bool) → g ≡ loads_image r → not g ≡ false
    → replaced (128 * b) (128 * b + 128 - 128 * b) m ys ≡ loaded_by r d m b
unfolding store block_at part loaded_by
image_loaded d m ys b k e q r g s z =
    let y : 128 * b + 128 - 128 * b ≡ 128 = omega arith in
    let v : 128 * k + 128 - 128 * k ≡ 128 = omega arith in
    cond_done g _ s _ _ _ (rw (y, q, v, e)) z

pub four_put : (m v : Bytes) (at : ℕ) → length v ≡ 4 → at + 4 ≤ length m
    → set (set (set (set m at (get_or v 0 0)) (at + 1) (get_or v 1 0)) (at + 2) (get_or v 2 0)) (at + 3) (get_or v 3 0) ≡ replaced at 4 m v
four_put m [] at l h = absurd (omega arith)
four_put m (p ∷ []) at l h = absurd (omega arith)
four_put m (p ∷ q ∷ []) at l h = absurd (omega arith)
four_put m (p ∷ q ∷ r ∷ []) at l h = absurd (omega arith)
four_put m (p ∷ q ∷ r ∷ s ∷ []) at l h = simp (add-one, add-two, add-three) (sets_replaced (p ∷ q ∷ r ∷ s ∷ []) m at h)
four_put m (p ∷ q ∷ r ∷ s ∷ t ∷ v) at l h = absurd (omega arith)

pub bytes_put : (n k l : Bytes) (at : ℕ) (v : Bytes) → n ≡ l → k ≡ replaced at 4 n v → k ≡ replaced at 4 l v
bytes_put n k l at v p q = q ∙ rw p

pub found_own : (x : Card) (c b : ℕ) (f : RuleMet) → f ≡ rule_met x c b → f ≡ rule_met x f.core f.block
found_own x c b f e = e ∙ ap (λ (a : RuleMet). rule_met x a.core a.block) (sym e)

-- ---- the command
-- room: no ninth block
pub no_ninth : (x : Card) (limit : ℕ) (f : RuleMet) → 0 ≡ refusal (room_conditions x limit f) → takes_past max_taken f.rule (writer x f.core) ≡ false
no_ninth x limit f e = (refusal_clear (room_conditions x limit f) (omega arith, (omega arith, (omega arith, (omega arith, tt)))) (sym e)).0

joined : (x : Card) (limit c b o : ℕ) (d m : Bytes)
    → refusal (write_conditions limit c b o (world x d m)) ≡ first_of (refusal (first_conditions c b o (world x d m))) (refusal (room_conditions x limit (rule_met x c b)))
unfolding write_conditions journal_full writer_after writer_name named_by taken_by
joined x limit c b o d m = refusal_joined (first_conditions c b o (world x d m)) _ (first_numbered c b o (world x d m))

pub first_refused : (v : List ℕ) (limit c b o : ℕ) (bytes d m : Bytes) → length v ≡ 423
    → (e : Refusal) → number_of e ≡ refusal (first_conditions c b o (world_in v d m)) → (r : Result ℕ Refusal) → r ≡ Err e
    → Meets (write limit c b o bytes (world_in v d m)) v v d m r
unfolding write
first_refused v limit c b o bytes d m l e q r h =
    meets_handed _ v d m _ l e (first_hit (number_of e) _ _ q (number_not_0 e) ∙ sym (joined (card_in v) limit c b o d m)) r h

module _ (v : List ℕ) (limit c b o : ℕ) (bytes d m : Bytes) (l : length v ≡ 423) (p : Unrefused (card_in v) c b o d m) (f : RuleMet) (e : f ≡ rule_met (card_in v) c b) where
  number : (k : ℕ) → k ≡ refusal (room_conditions (card_in v) limit f) → k ≡ refusal (write_conditions limit c b o (world_in v d m))
  number k r =
      first_pass 0 k _ _ (sym p.none) refl (r ∙ ap (λ (a : RuleMet). refusal (room_conditions (card_in v) limit a)) e)
      ∙ sym (joined (card_in v) limit c b o d m)

  pub ruled_refused : (n : Refusal) → number_of n ≡ refusal (room_conditions (card_in v) limit f) → (r : Result ℕ Refusal) → r ≡ Err n
      → Meets (write limit c b o bytes (world_in v d m)) v v d m r
  unfolding write
  ruled_refused n q r h = meets_handed _ v d m _ l n (number (number_of n) q) r h

  pub ruled_done : 0 ≡ refusal (room_conditions (card_in v) limit f) → (w : List ℕ) (t : Bytes) → t ≡ replaced (128 * b + o) 4 (loaded_by f.rule d m b) bytes → card_in w ≡ written_card (card_in v) f.core f.block → Frame v w 0 423
      → Meets (write limit c b o bytes (world_in v d m)) v w d t (Ok 0)
  unfolding write written written_memory loaded_by
  ruled_done r w t q i j =
      let y : card_in w ≡ written_card (card_in v) c b = i ∙ ap (λ (a : RuleMet). written_card (card_in v) a.core a.block) e in
      let z : t ≡ written_memory (world_in v d m) c b o bytes = q ∙ ap (λ (a : RuleMet). replaced (128 * b + o) 4 (loaded_by a.rule d m b) bytes) e in
      meets_done _ v d m _ l (number 0 r) w d t 0 (rw (y, z)) 0 423 j
