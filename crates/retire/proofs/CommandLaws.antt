-- RETIRE is refused with what CHECKPOINT is refused with too, or with 34 while images are left to be stored home, or carried out; so it
-- meets its contract.
use Rattle.model.proofs.Base.{ℕ, ◌≤◌, ◌<◌, ◌≡◌, refl, sym, ◌∙◌, ap, List, [], length, le-ltb, lt-ltb, Bytes}
use Rattle.model.specs.Card.{core_of}
use Rattle.model.specs.Valid.{in_sequence}
use Rattle.model.specs.Command.{refusal}
use Rattle.model.specs.Checkpoint.{oldest_conditions, retire_conditions, retired_oldest, retire, stored_master}
use Rattle.model.specs.declared.Committed.{Committed}
use Rattle.cells.specs.Answer.{Meets, Stores}
use Rattle.cells.specs.Cells.{card_in, world_in}
use Rattle.oldest.specs.Oldest.{OldestAsked}
use Rattle.oldest.proofs.AskedLaws.{both_refused, own_refused, none_refused, found_left}
use Rattle.std.specs.Prelude.{Result, Ok, Err}
use Rattle.model.specs.declared.Refusal.{Refusal}
use Rattle.model.specs.declared.Refusal.TheVariants.{HomeStoresLeft}

module _ (v : List ℕ) (c : ℕ) (d m : Bytes) (size : length v ≡ 423) where
  pub retire_refused : (e : Refusal) → OldestAsked (refusal (oldest_conditions in_sequence c (world_in v d m) [])) c (world_in v d m) (Err e)
      → (r : Result ℕ Refusal) → r ≡ Err e → Meets (retire in_sequence c (world_in v d m)) v v d m r
  unfolding retire retire_conditions
  retire_refused e a r h = both_refused v c d m size _ HomeStoresLeft (retired_oldest c (world_in v d m)) e a r h

  module _ (e : Committed) (a : OldestAsked (refusal (oldest_conditions in_sequence c (world_in v d m) [])) c (world_in v d m) (Ok e))
      (n : ℕ) (q : n ≡ (core_of (card_in v) c).homed) where
    pub images_outstanding : n < e.count → Meets (retire in_sequence c (world_in v d m)) v v d m (Err HomeStoresLeft)
    unfolding retire retire_conditions
    images_outstanding l =
        own_refused v c d m size _ HomeStoresLeft (retired_oldest c (world_in v d m)) e a
        (found_left _ c (card_in v) d m e a n q ∙ lt-ltb n e.count l)

    pub retire_done : e.count ≤ n → (w : List ℕ) (k : Bytes) → Stores (stored_master c e) v w d k
        → Meets (retire in_sequence c (world_in v d m)) v w k m (Ok 1)
    unfolding retire retire_conditions retired_oldest
    retire_done l w k s =
        none_refused v c d m size _ HomeStoresLeft (retired_oldest c (world_in v d m)) e a
        (found_left _ c (card_in v) d m e a n q ∙ le-ltb n e.count l) w k
        (s.outcome m ∙ ap (λ (t : Committed). stored_master c t (world_in v d m)) (sym (a.found e refl).first)) s.frame
