-- The bytes of an image are the model's.
use Rattle.model.proofs.Base.{ℕ, ◌≡◌, refl, Bytes}
use Rattle.model.specs.Bytes.{block_at}
use Rattle.model.specs.Layout.{unescaped}
use Rattle.model.specs.Journal.{journal_at, blocks_of, image_of}
use Rattle.model.specs.Recovery.{shape_on, place_of, image_found}
use Rattle.model.specs.declared.Shape.{Shape}
use Rattle.model.specs.declared.Committed.{Committed}
use Rattle.std.specs.Prelude.{Option, Some, None}
use Rattle.images.specs.Newest.{image_at, found_image}

module _ (s : Shape) (d : Bytes) where
  -- an image of a transaction
  pub image_bytes : (e : Committed) (i : ℕ) → unescaped (image_at s d e i).flag (block_at d (image_at s d e i).block) ≡ image_of s d e i
  unfolding image_at image_of journal_at
  image_bytes e i = refl

-- the newest image that recovery stores
pub found_bytes : (d : Bytes) (b : ℕ) (f : Option Committed)
    → unescaped (found_image (shape_on d) d b f).flag (block_at d (found_image (shape_on d) d b f).block) ≡ image_found d b f
unfolding found_image image_found unescaped
found_bytes d b None = refl
found_bytes d b (Some e) = image_bytes (shape_on d) d e (place_of b (blocks_of (shape_on d) d e))
