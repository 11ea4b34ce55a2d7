-- CHECKPOINT is refused with what RETIRE is refused with too, or with 35 where all images are stored home, or carried out; so it meets
-- its contract.
use Rattle.model.proofs.Base.{ℕ, ◌≤◌, ◌<◌, ◌≡◌, refl, sym, ◌∙◌, ap, not, List, [], length, le-ltb, lt-ltb, Bytes}
use Rattle.model.specs.Card.{core_of}
use Rattle.model.specs.Valid.{in_sequence}
use Rattle.model.specs.Command.{refusal}
use Rattle.model.specs.Checkpoint.{oldest_conditions, checkpoint_conditions, checkpointed, checkpoint, stored_home}
use Rattle.model.specs.declared.Committed.{Committed}
use Rattle.cells.specs.Answer.{Meets, Stores}
use Rattle.cells.specs.Cells.{card_in, world_in}
use Rattle.oldest.specs.Oldest.{OldestAsked}
use Rattle.oldest.proofs.AskedLaws.{both_refused, own_refused, none_refused, found_left}
use Rattle.std.specs.Prelude.{Result, Ok, Err}
use Rattle.model.specs.declared.Refusal.{Refusal}
use Rattle.model.specs.declared.Refusal.TheVariants.{AllStoredHome}

module _ (v : List ℕ) (c : ℕ) (d m : Bytes) (size : length v ≡ 423) where
  pub checkpoint_refused : (e : Refusal) → OldestAsked (refusal (oldest_conditions in_sequence c (world_in v d m) [])) c (world_in v d m) (Err e)
      → (r : Result ℕ Refusal) → r ≡ Err e → Meets (checkpoint in_sequence c (world_in v d m)) v v d m r
  unfolding checkpoint checkpoint_conditions
  checkpoint_refused e a r h = both_refused v c d m size _ AllStoredHome (checkpointed c (world_in v d m)) e a r h

  module _ (e : Committed) (a : OldestAsked (refusal (oldest_conditions in_sequence c (world_in v d m) [])) c (world_in v d m) (Ok e))
      (n : ℕ) (q : n ≡ (core_of (card_in v) c).homed) where
    pub all_home : e.count ≤ n → Meets (checkpoint in_sequence c (world_in v d m)) v v d m (Err AllStoredHome)
    unfolding checkpoint checkpoint_conditions
    all_home l =
        own_refused v c d m size _ AllStoredHome (checkpointed c (world_in v d m)) e a
        (ap not (found_left _ c (card_in v) d m e a n q ∙ le-ltb n e.count l))

    pub home_done : n < e.count → (w : List ℕ) (k : Bytes) → Stores (stored_home c e) v w d k
        → Meets (checkpoint in_sequence c (world_in v d m)) v w k m (Ok 1)
    unfolding checkpoint checkpoint_conditions checkpointed
    home_done l w k s =
        none_refused v c d m size _ AllStoredHome (checkpointed c (world_in v d m)) e a
        (ap not (found_left _ c (card_in v) d m e a n q ∙ lt-ltb n e.count l)) w k
        (s.outcome m ∙ ap (λ (t : Committed). stored_home c t (world_in v d m)) (sym (a.found e refl).first)) s.frame
