-- RECOVER stores the newest image of the lowest block left and counts on, or, with none left, stores the master with all
-- journals emptied and comes up. Refused, or carried out, it meets its contract.
use Rattle.model.proofs.Base.{ℕ, ◌+◌, ◌%◌, ◌<◌, arith, ◌≡◌, refl, sym, ap, ◌∙◌, true, List, [], ◌∷◌, map}
use Rattle.model.proofs.Base.{mem_head, length, get_or, set, get_or-set_same, not-false, below, Bytes}
use Rattle.model.specs.Bytes.{block_at, store}
use Rattle.model.specs.Shape.{home_block, clamped}
use Rattle.model.specs.Card.{new_tail, fresh_card}
use Rattle.model.specs.Layout.{is_master, master_block}
use Rattle.model.specs.Command.{refusal, Clear}
use Rattle.model.specs.Valid.{in_sequence}
use Rattle.model.specs.Recovery.{layout_on, blocks_left, newest_image, recovered_to, emptied_tail, brought_up, recover_conditions_by, recover_conditions, recover_step, recovered_by, recovered, recover}
use Rattle.model.specs.declared.Card.{Card}
use Rattle.model.specs.declared.Tail.{Tail}
use Rattle.model.specs.declared.Shape.{Shape}
use Rattle.model.specs.declared.Phase.TheVariants.{Up}
use Rattle.model.specs.declared.CommitLayout.TheVariants.{Numbers}
use Rattle.model.proofs.Lists.{map_below, get_or_map_below}
use Rattle.model.proofs.Limits.{clamped_same}
use Rattle.model.proofs.OneStore.{right_lengths, left_below}
use Rattle.model.proofs.Encoding.{master_same}
use Rattle.journal.specs.declared.extents.Extent.{Extent}
use Rattle.journal.specs.Records.{records_in}
use Rattle.std.specs.Prelude.{Option, Some, None}
use Rattle.images.specs.Newest.{first_of, held_from}
use Rattle.cells.specs.Cells.{byte_in, card_in, world, world_in}
use Rattle.cells.specs.Changes.{Frame}
use Rattle.cells.specs.Answer.{Meets, Stores}
use Rattle.cells.proofs.RefusalLaws.{none_held}
use Rattle.cells.proofs.MeetLaws.{meets_handed, meets_done}
use Rattle.std.specs.Prelude.{Result, Ok, Err}
use Rattle.model.specs.Refusal.{number_of}
use Rattle.model.specs.declared.Refusal.{Refusal}
use Rattle.cells.proofs.FitsLaws.{fits_field, frame_set, frame_wider}
use Rattle.cells.proofs.CoreLaws.{recovered_put}
use Rattle.recovery.specs.Recovering.{numbers_on, tail_after, Shaped, Emptying, IsValid}
use Rattle.recovery.proofs.JournalLaws.{left_first}

-- ---- the command
module _ (v : List ℕ) (d m : Bytes) where
  -- no refusal met
  module _ (e : 0 ≡ refusal (recover_conditions (world_in v d m))) where
    none_met : Clear (recover_conditions (world_in v d m))
    unfolding recover_conditions_by
    none_met = none_held (recover_conditions (world_in v d m)) (world_in v d m) (recovered in_sequence (world_in v d m)) 0 e refl (omega arith, (omega arith, (omega arith, (omega arith, tt))))

    pub disk_long : length d ≡ 32896
    unfolding recover_conditions_by
    disk_long = (right_lengths (world_in v d m) none_met.0).0

    pub first_master : is_master (block_at d 0) ≡ true
    unfolding recover_conditions_by
    first_master = not-false (is_master (block_at d 0)) none_met.1.1.1.0

  module _ (l : length v ≡ 423) where
    pub recover_refused : (e : Refusal) → number_of e ≡ refusal (recover_conditions (world_in v d m)) → (r : Result ℕ Refusal) → r ≡ Err e
        → Meets (recover in_sequence (world_in v d m)) v v d m r
    unfolding recover
    recover_refused e q r h = meets_handed (recover_conditions (world_in v d m)) v d m _ l e q r h

    pub recover_done : 0 ≡ refusal (recover_conditions (world_in v d m)) → (w : List ℕ) (k : Bytes) → Stores (recovered in_sequence) v w d k
        → Meets (recover in_sequence (world_in v d m)) v w k m (Ok 1)
    unfolding recover
    recover_done e w k s =
        meets_done (recover_conditions (world_in v d m)) v d m (recovered in_sequence (world_in v d m)) l e w k m 1 (s.outcome m) 0 423 s.frame

-- ---- the master store
module _ (d : Bytes) (s : Shape) (g : Shaped s d) (ts : List Tail) (e : ts ≡ map (emptied_tail (layout_on d) d) (below 8)) where
  emptied_master : master_block Numbers (clamped s) (λ (c : ℕ). get_or ts c (new_tail 0 0)) ≡ master_block Numbers s (emptied_tail (layout_on d) d)
  emptied_master =
      rw (clamped_same s g.range)
      (master_same Numbers s _ (emptied_tail (layout_on d) d) (λ c h. rw e (get_or_map_below (emptied_tail (layout_on d) d) 8 c (new_tail 0 0) (omega (arith, g.range.few_cores)))))

  brought_up_lem : (d' : Bytes) → d' ≡ store d 0 (master_block Numbers (clamped s) (λ (c : ℕ). get_or ts c (new_tail 0 0)))
      → (y : Card) → y ≡ fresh_card Up s ts
      → (x : Card) (m : Bytes) → record { answer = 0; world = world y d' m; stores = 1 } ≡ recover_step in_sequence (layout_on d) Numbers [] (world x d m)
  unfolding recover_step brought_up
  brought_up_lem d' q y p x m = rw (q, p, emptied_master, e, g.shape)

pub all_emptied : (d : Bytes) (s : Shape) → Shaped s d → (ts : List Tail) (count : List ℕ) → Emptying s d ts count → (after : List Tail) → after ≡ map (tail_after s ts count) (below 8)
    → (d' : Bytes) → d' ≡ store d 0 (master_block Numbers (clamped s) (λ (c : ℕ). get_or after c (new_tail 0 0)))
    → (v w : List ℕ) → card_in w ≡ fresh_card Up s after → Frame v w 0 423 → Stores (recover_step in_sequence (layout_on d) Numbers []) v w d d'
unfolding Emptying
all_emptied d s g ts count r after q d' p v w z f =
    record { outcome = λ m. brought_up_lem d s g after (q ∙ map_below (tail_after s ts count) (emptied_tail (layout_on d) d) 8 r) d' p (card_in w) z (card_in v) m; frame = f }

-- ---- a home store
home_step : (x y : Card) (d : Bytes) (b : ℕ) → y ≡ recovered_to x (b + 1) → (i : Bytes) → i ≡ newest_image in_sequence (layout_on d) d b
    → (d' : Bytes) → d' ≡ store d (home_block b) i → (bs : List ℕ) (m : Bytes)
    → record { answer = 0; world = world y d' m; stores = 1 } ≡ recover_step in_sequence (layout_on d) Numbers (b ∷ bs) (world x d m)
unfolding recover_step
home_step x y d b p i q d' h bs m = rw (p, h, q)

module _ (v : List ℕ) (long : length v ≡ 423) (b : ℕ) (few : b < 64) where
  passed_frame : Frame v (set v 5 (b + 1)) 5 1
  passed_frame = frame_set v 5 1 5 (b + 1) (omega arith) (omega arith) (fits_field 5 (b + 1) (omega arith) (omega arith) (omega arith))

  passed_byte : byte_in (set v 5 (b + 1)) 5 ≡ b + 1
  passed_byte = ap (λ (n : ℕ). n % 256) (get_or-set_same v 5 (b + 1) 0 (omega arith)) ∙ omega arith

  passed_card : card_in (set v 5 (b + 1)) ≡ recovered_to (card_in v) (b + 1)
  passed_card = recovered_put v (set v 5 (b + 1)) passed_frame ∙ ap (recovered_to (card_in v)) passed_byte

  home_passed : (d i : Bytes) → i ≡ newest_image in_sequence (layout_on d) d b → (d' : Bytes) → d' ≡ store d (home_block b) i
      → (bs : List ℕ) → Stores (recover_step in_sequence (layout_on d) Numbers (b ∷ bs)) v (set v 5 (b + 1)) d d'
  home_passed d i q d' h bs =
      record {
        outcome = λ m. home_step (card_in v) (card_in (set v 5 (b + 1))) d b passed_card i q d' h bs m;
        frame = frame_wider v (set v 5 (b + 1)) 5 1 0 423 passed_frame (omega arith) (omega arith);
      }

pub home_stored : (v : List ℕ) → length v ≡ 423 → (s : Shape) (d : Bytes) → Shaped s d → (b : ℕ) → b < s.blocks
    → (i : Bytes) → i ≡ newest_image in_sequence (layout_on d) d b → (d' : Bytes) → d' ≡ store d (home_block b) i
    → (bs : List ℕ) → Stores (recover_step in_sequence (layout_on d) Numbers (b ∷ bs)) v (set v 5 (b + 1)) d d'
home_stored v l s d g b h = home_passed v l b (omega (arith, g.range.few_blocks)) d

-- ---- which of the two comes next
first_some : (b : ℕ) (xs : List ℕ) → Some b ≡ first_of xs → (bs : List ℕ) × (xs ≡ b ∷ bs)
unfolding first_of
first_some b [] e = cc
first_some b (x ∷ xs) e = let z : b ≡ x = cc in (xs, rw z)

first_none : (xs : List ℕ) → None ≡ first_of xs → xs ≡ []
unfolding first_of
first_none [] e = refl
first_none (x ∷ xs) e = cc

recovered_read : (v : List ℕ) → byte_in v 5 ≡ (card_in v).recovered
unfolding card_in
recovered_read v = refl

module _ (v : List ℕ) (d : Bytes) (s : Shape) (g : Shaped s d) (xs : List Extent) (start count : List ℕ) (q : IsValid s d xs start count) (from : ℕ) (f : from ≡ byte_in v 5)
    (r : Option ℕ) (e : (ks : List ℕ) → r ≡ held_from s d (records_in s xs ks start count) from) where
  next_left : (m : Bytes) → r ≡ first_of (blocks_left in_sequence (layout_on d) (world_in v d m))
  next_left m = left_first d s g xs start count q (card_in v) m r (e (numbers_on d) ∙ ap (held_from s d (records_in s xs (numbers_on d) start count)) (f ∙ recovered_read v))

  module _ (b : ℕ) (h : r ≡ Some b) where
    next_some : (m : Bytes) → (bs : List ℕ) × (blocks_left in_sequence (layout_on d) (world_in v d m) ≡ b ∷ bs)
    next_some m = first_some b _ (sym h ∙ next_left m)

    pub recovered_below : b < s.blocks
    recovered_below =
        let n = next_some [] in
        rw g.shape (left_below in_sequence (layout_on d) (world_in v d []) (rw n.1 (mem_head refl)))

    pub recovered_home : (w : List ℕ) (k : Bytes) → ((bs : List ℕ) → Stores (recover_step in_sequence (layout_on d) Numbers (b ∷ bs)) v w d k) → Stores (recovered in_sequence) v w d k
    unfolding recovered recovered_by
    recovered_home w k t =
        record {
          outcome = λ m.
              let n = next_some m in
              (t n.0).outcome m ∙ ap (λ (bs : List ℕ). recover_step in_sequence (layout_on d) Numbers bs (world_in v d m)) (sym n.1);
          frame = (t []).frame;
        }

  pub recovered_up : r ≡ None → (w : List ℕ) (k : Bytes) → Stores (recover_step in_sequence (layout_on d) Numbers []) v w d k → Stores (recovered in_sequence) v w d k
  unfolding recovered recovered_by
  recovered_up h w k t =
      record {
        outcome = λ m.
            let n = first_none (blocks_left in_sequence (layout_on d) (world_in v d m)) (sym h ∙ next_left m) in
            t.outcome m ∙ ap (λ (bs : List ℕ). recover_step in_sequence (layout_on d) Numbers bs (world_in v d m)) (sym n);
        frame = t.frame;
      }
