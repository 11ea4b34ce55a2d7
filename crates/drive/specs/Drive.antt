-- The drive, paper 02, (m): the card's world, the disk blocks stored since the last barrier in the order of their stores, and the third
-- lent slice with the images that those stores replaced.
use Rattle.std.specs.Prelude.{ℕ, Bool, false, List, [], ◌∷◌, ◌++◌, length}
use Rattle.model.specs.Bytes.{Bytes, block_at, store, zero_memory}
use Rattle.model.specs.Card.{down_card}
use Rattle.model.specs.Command.{World, DiskStore, no_store, one_store, whole_disk}
use Rattle.model.specs.Tape.{CHECKPOINT, CLOSE, CUT, Command, FORMAT, RECOVER, RETIRE, STORE, WRITE}
use Rattle.model.specs.Valid.{in_sequence}
use Rattle.model.specs.Step.{done_by, next_store}
use Rattle.drive.specs.Undone.{undone}

pub record Drive : Type 0 where
  pub world : World
  pub since : List ℕ
  pub images : Bytes

-- the blocks since the barrier after what a command stores: 'what a cut or FORMAT leaves counts as behind a barrier'
abbrev pub since_after : DiskStore → Drive → List ℕ
since_after no_store d = d.since
since_after (one_store b) d = d.since ++ (b.place ∷ [])
since_after (whole_disk e) d = []

-- 'The images replaced lie, in order of store, in a third lent slice'; 'Only a store changes this slice, FORMAT does not.'
abbrev pub images_after : DiskStore → Drive → Bytes
images_after no_store d = d.images
images_after (one_store b) d = store d.images (length d.since) (block_at d.world.disk b.place)
images_after (whole_disk e) d = d.images

-- a command other than a cut, carried out
unfoldable pub drive_after : Command → Drive → Drive
drive_after k d =
    let s = next_store in_sequence k d.world in
    record { world = (done_by in_sequence k d.world).world; since = since_after s d; images = images_after s d }

-- BARRIER: no store is since the barrier
unfoldable pub drive_barrier : Drive → Drive
drive_barrier d = record { world = d.world; since = []; images = d.images }

-- CUT LOSING 'undoes the marked stores'
unfoldable pub drive_cut : (ℕ → Bool) → Drive → Drive
drive_cut marked d =
    record {
      world = record { card = down_card; disk = undone marked 0 d.since d.images d.world.disk; memory = zero_memory };
      since = [];
      images = d.images;
    }

-- a command carried out; 'plain CUT loses none'
unfoldable pub drive_done : Command → Drive → Drive
drive_done (FORMAT c b j) d = drive_after (FORMAT c b j) d
drive_done (WRITE task c b o v) d = drive_after (WRITE task c b o v) d
drive_done (CLOSE c) d = drive_after (CLOSE c) d
drive_done (STORE c) d = drive_after (STORE c) d
drive_done (CHECKPOINT c) d = drive_after (CHECKPOINT c) d
drive_done CUT d = drive_cut (λ (i : ℕ). false) d
drive_done RECOVER d = drive_after RECOVER d
drive_done (RETIRE c) d = drive_after (RETIRE c) d
