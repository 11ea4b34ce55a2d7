-- A home store puts the image of the next block home and counts it.
use Rattle.model.proofs.Base.{ℕ, ◌+◌, ◌<◌, arith, ◌≡◌, ◌∙◌, List, get_or, Bytes}
use Rattle.model.specs.Bytes.{block_at, store}
use Rattle.model.specs.Shape.{home_block}
use Rattle.model.specs.Card.{shape_of, core_of, with_core}
use Rattle.model.specs.Layout.{unescaped}
use Rattle.model.specs.Journal.{blocks_of, image_of}
use Rattle.model.specs.Checkpoint.{homed_core, stored_home}
use Rattle.model.specs.declared.Shape.{Shape}
use Rattle.model.specs.declared.Card.{Card}
use Rattle.model.specs.declared.Committed.{Committed}
use Rattle.images.specs.Newest.{image_at}
use Rattle.images.specs.declared.newest.Image.{Image}
use Rattle.images.proofs.ImageBytes.{image_bytes}
use Rattle.cells.specs.Cells.{world, card_in, core_place}
use Rattle.model.specs.declared.Core.{Core}
use Rattle.cells.specs.declared.cores.CoreNumbers.{CoreNumbers}
use Rattle.cells.specs.Changes.{Frame, numbers_of, with_numbers}
use Rattle.cells.proofs.FitsLaws.{frame_wider}
use Rattle.cells.specs.Answer.{Stores}

-- ---- a home store
pub home_put : (s : Shape) (d : Bytes) (e : Committed) (i b : ℕ) → b ≡ get_or (blocks_of s d e) i 0 → (at : Image) → at ≡ image_at s d e i
    → (g : Bytes) → g ≡ block_at d at.block → (h : Bytes) → h ≡ unescaped at.flag g
    → (r : Bytes) → r ≡ store d (home_block b) h → r ≡ store d (home_block (get_or (blocks_of s d e) i 0)) (image_of s d e i)
home_put s d e i b p at q g y h x r z = z ∙ rw (p, x, y, q, image_bytes s d e i)

home_outcome : (x : Card) (c : ℕ) (e : Committed) (s : Shape) → s ≡ shape_of x → (n : ℕ) → n ≡ (core_of x c).homed
    → (d k : Bytes) → k ≡ store d (home_block (get_or (blocks_of s d e) n 0)) (image_of s d e n) → (y : Card) → y ≡ with_core x c (homed_core (core_of x c))
    → (m : Bytes) → record { answer = 0; world = world y k m; stores = 1 } ≡ stored_home c e (world x d m)
unfolding stored_home
home_outcome x c e s p n q d k r y z m = rw (r, z, q, p)

module _ (v w : List ℕ) (c : ℕ) (e : Committed) (d k : Bytes) where
  pub home_stored : c < 8 → (n : ℕ) → n ≡ (core_of (card_in v) c).homed → (s : Shape) → s ≡ shape_of (card_in v)
      → k ≡ store d (home_block (get_or (blocks_of s d e) n 0)) (image_of s d e n) → card_in w ≡ with_core (card_in v) c (homed_core (core_of (card_in v) c)) → Frame v w (core_place c) 4
      → Stores (stored_home c e) v w d k
  home_stored h n q s p r z f =
      record {
        outcome = home_outcome (card_in v) c e s p n q d k r (card_in w) z;
        frame = frame_wider v w (core_place c) 4 0 423 f (omega arith) (omega arith);
      }

-- ---- counted in its core
pub core_homed : (k : Core) (n : CoreNumbers) → n ≡ numbers_of k → (homed : ℕ) → homed ≡ k.homed → with_numbers k n.next n.used n.stored (homed + 1) ≡ homed_core k
core_homed k n e homed r = rw (e, r)
