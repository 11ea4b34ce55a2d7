-- Images in the journal: where one stands, the newest of a block, the lowest block that a set holds, and who shares one.
use Rattle.std.specs.Prelude.{ℕ, zero, suc, ◌+◌, List, [], ◌∷◌, Bool, cond, ◌&&◌, get_or, ltb, leb}
use Rattle.model.specs.Lists.{select}
use Rattle.model.specs.Bytes.{Bytes}
use Rattle.model.specs.Shape.{home_block, journal_block}
use Rattle.model.specs.Layout.{new_tag, pair_at}
use Rattle.model.specs.Journal.{journal_at, tags_of, blocks_of, took}
use Rattle.model.specs.Valid.{blocks_held}
use Rattle.model.specs.Recovery.{place_of}
use Rattle.model.specs.Checkpoint.{share}
use Rattle.model.specs.declared.Shape.{Shape}
use Rattle.model.specs.declared.Committed.{Committed}
use Rattle.std.specs.Prelude.{Option, Some, None}
use Rattle.journal.specs.declared.extents.Extent.{Extent}
use Rattle.journal.specs.Records.{extent_at, record_in}
use Rattle.images.specs.declared.newest.Image.{Image}

-- a value x after n steps; f takes the number of the step
module _ {A : Type 0} (f : ℕ → A → A) (x : A) where
  unfoldable pub stepped : ℕ → A
  stepped zero = x
  stepped (suc n) = f n (stepped n)

-- the image of the i-th block of a transaction
unfoldable pub image_at : Shape → Bytes → Committed → ℕ → Image
image_at s d e i =
    record { stamp = e.stamp; block = journal_block s e.core (e.position + (i + 1)); flag = (get_or (tags_of s d e) i (new_tag 0 0)).flag }

-- the image of block b in the transaction found, or the one at home
unfoldable pub found_image : Shape → Bytes → ℕ → Option Committed → Image
found_image s d b None = record { stamp = 0; block = home_block b; flag = 0 }
found_image s d b (Some e) = image_at s d e (place_of b (blocks_of s d e))

-- of an image of block b and the one that a transaction has, if it took the block, the later
unfoldable pub later_of : Shape → Bytes → ℕ → Committed → Image → Image
later_of s d b e best = cond (took s d b e && leb best.stamp e.stamp) (image_at s d e (place_of b (blocks_of s d e))) best

-- the same with core c's record at place a + j; its number plays no part
unfoldable pub later_in : Shape → Bytes → ℕ → List Extent → ℕ → ℕ → ℕ → Image → Image
later_in s d b xs c a j best = later_of s d b (record_in xs c 0 (a + j)) best

unfoldable pub first_of : List ℕ → Option ℕ
first_of [] = None
first_of (x ∷ xs) = Some x

-- the lowest block at or above a that a set of transactions holds, if it holds one
unfoldable pub held_from : Shape → Bytes → List Committed → ℕ → Option ℕ
held_from s d es a = first_of (select (leb a) (blocks_held s d es))

-- of a block x and the lowest so far the lower; one below a does not count
unfoldable pub lower_of : ℕ → ℕ → ℕ → ℕ
lower_of a x best = cond (leb a x && ltb x best) x best

-- the same with the i-th block of descriptor f
unfoldable pub lower_at : Bytes → ℕ → ℕ → ℕ → ℕ
lower_at f a i best = lower_of a (pair_at new_tag f 16 i).block best

-- with each block of core c's record with extent x
unfoldable pub lower_by : Shape → Bytes → ℕ → ℕ → Extent → ℕ → ℕ
lower_by s d a c x best = stepped (lower_at (journal_at s d c x.position) a) best x.count

-- with each of its record at place k + j
abbrev pub lower_in : Shape → Bytes → ℕ → List Extent → ℕ → ℕ → ℕ → ℕ → ℕ
lower_in s d a xs c k j best = lower_by s d a c (extent_at xs (k + j)) best

-- transaction f has a lower stamp than e, and shares a block with it
unfoldable pub shares_below : Shape → Bytes → Committed → Committed → Bool
shares_below s d e f = ltb f.stamp e.stamp && share (blocks_of s d e) (blocks_of s d f)

-- a test of core c's record at place a + j, one that does not look at the number
unfoldable pub asked_in : (Committed → Bool) → List Extent → ℕ → ℕ → ℕ → Bool
asked_in p xs c a j = p (record_in xs c 0 (a + j))
