-- The master store puts the tails, the core's own past its record.
use Rattle.model.proofs.Base.{ℕ, ◌+◌, ◌%◌, ◌≡◌, refl, ◌∙◌, List, get_or, set, Bytes}
use Rattle.model.specs.Bytes.{store}
use Rattle.model.specs.Shape.{clamped}
use Rattle.model.specs.Card.{new_tail, shape_of, tail_of}
use Rattle.model.specs.Layout.{master_block}
use Rattle.model.specs.Checkpoint.{moved_tail, retired_card, stored_master}
use Rattle.model.specs.declared.Shape.{Shape}
use Rattle.model.specs.declared.Tail.{Tail}
use Rattle.model.specs.declared.Card.{Card}
use Rattle.model.specs.declared.CommitLayout.TheVariants.{Numbers}
use Rattle.model.specs.declared.Committed.{Committed}
use Rattle.model.proofs.Limits.{clamped_same}
use Rattle.cells.specs.Cells.{world, card_in}
use Rattle.cells.specs.Changes.{Frame}
use Rattle.cells.specs.Answer.{Stores}
use Rattle.oldest.proofs.CardLaws.{shape_range}

retired_master : (x : Card) (c : ℕ) (e : Committed)
    → master_block Numbers (shape_of x) (λ (i : ℕ). get_or (set x.tails c (moved_tail (shape_of x) e)) i (new_tail 0 0))
    ≡ master_block Numbers (shape_of (retired_card c e x)) (tail_of (retired_card c e x))
unfolding shape_of tail_of retired_card
retired_master x c e = refl

master_outcome : (x : Card) (c : ℕ) (e : Committed) (s : Shape) → s ≡ shape_of x → (t : Tail) → t ≡ moved_tail s e → (ts : List Tail) → ts ≡ x.tails
    → (d k : Bytes) → k ≡ store d 0 (master_block Numbers (clamped s) (λ (i : ℕ). get_or (set ts c t) i (new_tail 0 0))) → (y : Card) → y ≡ retired_card c e x
    → (m : Bytes) → record { answer = 0; world = world y k m; stores = 1 } ≡ stored_master c e (world x d m)
unfolding stored_master
master_outcome x c e s p t q ts o d k r y z m = rw (r, z, clamped_same s (shape_range x s p), q, o, p, retired_master x c e)

module _ (v w : List ℕ) (c : ℕ) (e : Committed) (d k : Bytes) where
  pub master_stored : (s : Shape) → s ≡ shape_of (card_in v) → (t : Tail) → t ≡ moved_tail s e → (ts : List Tail) → ts ≡ (card_in v).tails
      → k ≡ store d 0 (master_block Numbers (clamped s) (λ (i : ℕ). get_or (set ts c t) i (new_tail 0 0))) → card_in w ≡ retired_card c e (card_in v) → Frame v w 0 423
      → Stores (stored_master c e) v w d k
  master_stored s p t q ts o r z f = record { outcome = master_outcome (card_in v) c e s p t q ts o d k r (card_in w) z; frame = f }

pub tail_past : (s : Shape) (e : Committed) (at : ℕ) → at ≡ (e.position + (e.count + 2)) % s.journal → new_tail (e.number + 1) at ≡ moved_tail s e
tail_past s e at q = rw q

pub moved_past : (x : Card) (e : Committed) (s : Shape) → s ≡ shape_of x → (t : Tail) → t ≡ moved_tail s e → t ≡ moved_tail (shape_of x) e
moved_past x e s p t q = q ∙ rw p
