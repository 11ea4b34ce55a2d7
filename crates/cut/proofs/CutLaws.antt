-- CUT is refused with 1 or 20; else the card is down, memory is zeroed and the disk as it was.
use Rattle.model.proofs.Base.{ℕ, arith, ◌≡◌, refl, ◌∙◌, List, length, replicate, Bytes}
use Rattle.model.specs.Bytes.{zero_memory}
use Rattle.model.specs.Card.{down_card}
use Rattle.model.specs.Command.{World, unstored, refusal}
use Rattle.model.specs.Recovery.{cut_conditions, cut}
use Rattle.model.proofs.OneStore.{right_lengths}
use Rattle.cells.specs.Cells.{card_in, world_in}
use Rattle.cells.specs.Changes.{Frame}
use Rattle.cells.specs.Answer.{phase_refusal, Meets}
use Rattle.layout.proofs.DiskLaws.{zero_memory_lem}
use Rattle.cells.proofs.RefusalLaws.{cut_numbers, none_held}
use Rattle.cells.proofs.MeetLaws.{meets_handed, meets_done}
use Rattle.std.specs.Prelude.{Result, Ok, Err}
use Rattle.model.specs.Refusal.{number_of}
use Rattle.model.specs.declared.Refusal.{Refusal}

pub cut_first : (w : World) (n : ℕ) → n ≡ phase_refusal w 20 0 0 → n ≡ refusal (cut_conditions w)
cut_first w n e = e ∙ cut_numbers w

module _ (v : List ℕ) (d m : Bytes) (l : length v ≡ 423) where
  pub cut_refused : (e : Refusal) → number_of e ≡ refusal (cut_conditions (world_in v d m)) → (r : Result ℕ Refusal) → r ≡ Err e
      → Meets (cut (world_in v d m)) v v d m r
  unfolding cut
  cut_refused e q r h = meets_handed (cut_conditions (world_in v d m)) v d m _ l e q r h

  module _ (e : 0 ≡ refusal (cut_conditions (world_in v d m))) where
    memory_long : length m ≡ 16384
    unfolding cut_conditions
    memory_long =
        let c = none_held (cut_conditions (world_in v d m)) (world_in v d m) (unstored (world_in v d m) down_card zero_memory) 0 e refl (omega arith, (omega arith, tt)) in
        (right_lengths (world_in v d m) c.0).1

    pub cut_done : (k : Bytes) → k ≡ replicate (length m) 0 → (w : List ℕ) → card_in w ≡ down_card → Frame v w 0 423 → Meets (cut (world_in v d m)) v w d k (Ok 0)
    unfolding cut
    cut_done k q w p f =
        meets_done (cut_conditions (world_in v d m)) v d m (unstored (world_in v d m) down_card zero_memory) l e w d k 0
        (rw (p, q, zero_memory_lem m memory_long))
        0 423 f
