-- A drive is what the stores since the barrier leave of the disk behind it (`MadeOf`): from a barrier on, through every store. So a cut
-- leaves that disk with those stores made, in their order, that are not marked.
use Prim.Native.Nat.{ℕ, suc, ◌+◌, ◌*◌, ◌≤◌, ◌<◌}
use native.Mathlib.Omega.{arith}
use mathlib.Core.Path.{◌≡◌, refl, sym, ap, ◌∙◌}
use mathlib.Core.Bool.{Bool, false}
use mathlib.Core.List.{List, [], ◌∷◌, ◌++◌, map-append, append-nil}
use lib.ListN.{length, length-map}
use Rattle.model.specs.Bytes.{Bytes, block_at, store}
use Rattle.model.specs.Command.{BlockStore, DiskStore, no_store, one_store, whole_disk, with_store, count_of, Clear}
use Rattle.model.specs.Step.{conditions_of, next_store}
use Rattle.model.specs.Tape.{Command}
use Rattle.model.specs.Valid.{in_sequence}
use Rattle.model.proofs.Lists.{each_append}
use Rattle.model.proofs.Store.{block_stored, block_other, length_block_at}
use Rattle.model.proofs.OneStore.{StoreFits, none_stored, one_stored, store_place_low, is_format, stored_shape, done_makes, next_fits, stored_limits}
use Rattle.model.proofs.Arrays.{Arrays}
use Rattle.drive.specs.Drive.{Drive, drive_after, drive_barrier, drive_cut}
use Rattle.drive.proofs.Lost.Unmarked.{made_but, none_marked, places_of, StoresFit, ImagesFound, made_size, undone_made}

pub record MadeOf (behind : Bytes) (bs : List BlockStore) (w : Drive) : Type 0 where
  pub size : length behind ≡ 32896
  pub fits : StoresFit bs
  pub places : w.since ≡ places_of bs
  pub disk : w.world.disk ≡ made_but none_marked 0 bs behind
  pub found : ImagesFound 0 bs w.images behind

-- ---- one store more
module _ (b : BlockStore) where
  made_more : (i : ℕ) (bs : List BlockStore) (d : Bytes) → made_but none_marked i (bs ++ (b ∷ [])) d ≡ store (made_but none_marked i bs d) b.place b.bytes
  made_more i [] d = refl
  made_more i (x ∷ bs) d = made_more (suc i) bs (store d x.place x.bytes)

  -- the image goes behind those that are there
  found_more : (old image : Bytes) → length image ≡ 128 → (n i : ℕ) → 128 * n + 128 ≤ length old → (bs : List BlockStore) → i + length bs ≡ n → (d : Bytes)
      → ImagesFound i bs old d → image ≡ block_at (made_but none_marked i bs d) b.place → ImagesFound i (bs ++ (b ∷ [])) (store old n image) d
  found_more old image size n i room [] e d f g =
      let q : i ≡ n = omega arith in
      (ap (block_at (store old n image)) q ∙ block_stored old n image room size ∙ g, tt)
  found_more old image size n i room (x ∷ bs) e d f g = (
    block_other old n image room size i (λ q. omega arith) ∙ f.0,
    found_more old image size n (suc i) room bs (omega arith) (store d x.place x.bytes) f.1 g,
  )

-- ---- from a barrier on
pub made_barrier : (w : Drive) → length w.world.disk ≡ 32896 → MadeOf w.world.disk [] (drive_barrier w)
unfolding drive_barrier
made_barrier w size = record { size = size; fits = tt; places = refl; disk = refl; found = tt }

-- a store
made_store : {behind : Bytes} {bs : List BlockStore} {w : Drive} → MadeOf behind bs w → (k : Command) (b : BlockStore) → next_store in_sequence k w.world ≡ one_store b
    → b.place < 257 → length b.bytes ≡ 128 → length w.images ≡ 8192 → length w.since < 64 → MadeOf behind (bs ++ (b ∷ [])) (drive_after k w)
unfolding drive_after
made_store {behind} {bs} {w} l k b next low long size few =
    let n : length bs ≡ length w.since = sym (ap length l.places ∙ length-map bs (λ (b : BlockStore). b.place)) in
    let room : 128 * length w.since + 128 ≤ length w.images = omega arith in
    let disk_long : length w.world.disk ≡ 32896 = ap length l.disk ∙ made_size none_marked 0 bs behind l.size l.fits in
    let was : length (block_at w.world.disk b.place) ≡ 128 = length_block_at 257 w.world.disk disk_long b.place low in
    rw next
    (record {
      size = l.size;
      fits = each_append (λ (b : BlockStore). (b.place < 257) × (length b.bytes ≡ 128)) bs (b ∷ []) l.fits ((low, long), tt);
      places = ap (λ (ps : List ℕ). ps ++ (b.place ∷ [])) l.places ∙ sym (map-append (λ (b : BlockStore). b.place) bs (b ∷ []));
      disk = (done_makes in_sequence k w.world).disk ∙ ap (λ (s : DiskStore). with_store s w.world.disk) next
          ∙ ap (λ (d : Bytes). store d b.place b.bytes) l.disk ∙ sym (made_more b 0 bs behind);
      found =
          found_more b w.images (block_at w.world.disk b.place) was (length w.since) 0 room bs (omega arith) behind l.found
          (ap (λ (d : Bytes). block_at d b.place) l.disk);
    })

-- no store
made_other : {behind : Bytes} {bs : List BlockStore} {w : Drive} → MadeOf behind bs w → (k : Command) → next_store in_sequence k w.world ≡ no_store → MadeOf behind bs (drive_after k w)
unfolding drive_after
made_other {w = w} l k next =
    rw next
    (record {
      size = l.size;
      fits = l.fits;
      places = l.places;
      disk = (done_makes in_sequence k w.world).disk ∙ ap (λ (s : DiskStore). with_store s w.world.disk) next ∙ l.disk;
      found = l.found;
    })

-- through every command that is carried out, but FORMAT, which leaves no store since the barrier, and a cut
abbrev pub stores_of : DiskStore → List BlockStore
stores_of no_store = []
stores_of (one_store b) = b ∷ []
stores_of (whole_disk e) = []

pub made_done : {behind : Bytes} {bs : List BlockStore} {w : Drive} → MadeOf behind bs w → (k : Command) → is_format k ≡ false → Arrays w.world.card
    → Clear (conditions_of in_sequence k w.world) → length w.images ≡ 8192 → length w.since + count_of (next_store in_sequence k w.world) ≤ 64
    → MadeOf behind (bs ++ stores_of (next_store in_sequence k w.world)) (drive_after k w)
made_done {behind} {bs} {w} l k other arrays clear size few =
    go (next_store in_sequence k w.world) refl few (next_fits in_sequence k w.world arrays other clear)
  where
    go : (s : DiskStore) → next_store in_sequence k w.world ≡ s → length w.since + count_of s ≤ 64 → StoreFits (stored_shape k w.world) s → MadeOf behind (bs ++ stores_of s) (drive_after k w)
    go no_store e n none_stored = rw (append-nil bs) (made_other l k e)
    go (one_store b) e n (one_stored p h) = made_store l k b e (store_place_low (stored_limits in_sequence k w.world clear) p) h size (omega arith)
    go (whole_disk d) e n f = elim f [ ]

-- A cut leaves the disk behind the barrier with the stores made, in their order, that are not marked.
pub made_cut : {behind : Bytes} {bs : List BlockStore} {w : Drive} → MadeOf behind bs w → (marked : ℕ → Bool) → (drive_cut marked w).world.disk ≡ made_but marked 0 bs behind
unfolding drive_cut
made_cut {behind} {bs} {w} l marked = rw (l.places, l.disk) (undone_made marked w.images 0 bs behind l.size l.fits l.found)
