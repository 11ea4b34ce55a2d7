-- The image of a transaction stands where the code computed it; the later of two has the higher stamp, of equal ones the last.
-- After the records of all cores the newest image of a block is the definition's.
use Rattle.model.proofs.Base.{ℕ, zero, suc, ◌+◌, ◌≤◌, ◌<◌, arith, ◌≡◌, refl, sym, ap, ◌∙◌, cond, List, []}
use Rattle.model.proofs.Base.{◌∷◌, ◌++◌, map, append-nil, map-append, get_or, leb, le-leb, lt-leb, flat_map, below, Bytes}
use Rattle.model.specs.Shape.{journal_block}
use Rattle.model.specs.Layout.{new_tag, pair_at, pairs_in, tags_in}
use Rattle.model.specs.Journal.{journal_at, tags_of, blocks_of, took}
use Rattle.model.specs.Valid.{later, newest}
use Rattle.model.specs.declared.Shape.{Shape}
use Rattle.model.specs.declared.Committed.{Committed}
use Rattle.std.specs.Prelude.{Option, Some, None}
use Rattle.model.proofs.Lists.{cases, flat_map_append, get_or_map_below}
use Rattle.journal.specs.declared.extents.Extent.{Extent}
use Rattle.journal.specs.Records.{place_among, committed_in, extent_at, record_in, run_in, records_in}
use Rattle.journal.proofs.Blocks.{took_none, took_some, took_place}
use Rattle.images.specs.declared.newest.Image.{Image}
use Rattle.images.specs.Newest.{stepped, image_at, found_image, later_of, later_in}

-- ---- one image
pub image_is : (s : Shape) (d : Bytes) (e : Committed) (i x k : ℕ) (f : Bytes) → f ≡ journal_at s d e.core e.position → x ≡ (pair_at new_tag f 16 i).flag
    → k ≡ journal_block s e.core (e.position + (i + 1)) → i < e.count → ◌≡◌ {A = Image} (record { stamp = e.stamp; block = k; flag = x }) (image_at s d e i)
unfolding image_at tags_of tags_in pairs_in
image_is s d e i x k f q h p m =
    let z : get_or (map (pair_at new_tag (journal_at s d e.core e.position) 16) (below e.count)) i (new_tag 0 0) ≡ pair_at new_tag (journal_at s d e.core e.position) 16 i =
    get_or_map_below (pair_at new_tag (journal_at s d e.core e.position) 16) e.count i (new_tag 0 0) m in
    let g : x ≡ (get_or (map (pair_at new_tag (journal_at s d e.core e.position) 16) (below e.count)) i (new_tag 0 0)).flag = h ∙ rw (q, z) in
    rw (← g, ← p)

-- ---- the later of two
module _ (s : Shape) (d : Bytes) (b : ℕ) (e : Committed) (best : Image) (p : Option ℕ) (q : p ≡ place_among b (blocks_of s d e)) where
  pub later_none : p ≡ None → best ≡ later_of s d b e best
  unfolding later_of
  later_none h = rw (took_none s d e b p q h)

  module _ (i : ℕ) (z : p ≡ Some i) where
    pub later_less : e.stamp < best.stamp → best ≡ later_of s d b e best
    unfolding later_of
    later_less g = rw (took_some s d e b p q i z, lt-leb best.stamp e.stamp g)

    pub later_some : (r : Image) → r ≡ image_at s d e i → best.stamp ≤ e.stamp → r ≡ later_of s d b e best
    unfolding later_of
    later_some r h g = h ∙ rw (took_some s d e b p q i z, le-leb best.stamp e.stamp g, took_place s d e b p q i z)

-- ---- the newest
module _ (s : Shape) (d : Bytes) (b : ℕ) where
  newest_append : (f : Option Committed) (xs ys : List Committed) → newest s d b f (xs ++ ys) ≡ newest s d b (newest s d b f xs) ys
  unfolding newest
  newest_append f [] ys = refl
  newest_append f (x ∷ xs) ys = newest_append (cond (took s d b x) (Some (later f x)) f) xs ys

  -- more behind them
  found_more : (f : Option Committed) (xs ys zs : List Committed) → zs ≡ xs ++ ys → found_image s d b (newest s d b (newest s d b f xs) ys) ≡ found_image s d b (newest s d b f zs)
  found_more f xs ys zs e = ap (found_image s d b) (sym (newest_append f xs ys) ∙ ap (newest s d b f) (sym e))

  -- one transaction more
  later_found : (f : Option Committed) (e : Committed) → later_of s d b e (found_image s d b f) ≡ found_image s d b (newest s d b f (e ∷ []))
  unfolding later_of found_image newest later image_at
  later_found None e = cases (took s d b e) (λ t. rw (t, le-leb 0 e.stamp (omega arith))) (λ t. rw t)
  later_found (Some a) e =
      cases (took s d b e)
      (λ t. cases (leb a.stamp e.stamp) (λ u. rw (t, u)) (λ u. rw (t, u)))
      (λ t. rw t)

  -- the record at place a + j, whatever its number
  module _ (xs : List Extent) where
    pub later_in_lem : (c a j : ℕ) (e : Committed) (best r : Image) → e ≡ committed_in c 0 (extent_at xs (a + j)) → r ≡ later_of s d b e best → r ≡ later_in s d b xs c a j best
    unfolding later_in record_in
    later_in_lem c a j e best r q h = h ∙ rw q

    found_in : (c k a j : ℕ) (f : Option Committed) → later_in s d b xs c a j (found_image s d b f) ≡ found_image s d b (newest s d b f (record_in xs c k (a + j) ∷ []))
    unfolding later_in later_of record_in took blocks_of tags_of image_at
    found_in c k a j f = later_found f (record_in xs c k (a + j))

    -- n of core c
    found_run : (c k a : ℕ) (f : Option Committed) (n : ℕ) → stepped (later_in s d b xs c a) (found_image s d b f) n ≡ found_image s d b (newest s d b f (run_in xs c k a n))
    unfolding stepped run_in below newest
    found_run c k a f zero = refl
    found_run c k a f (suc n) =
        ap (later_in s d b xs c a n) (found_run c k a f n)
        ∙ found_in c (k + n) a n (newest s d b f (run_in xs c k a n))
        ∙ found_more f (run_in xs c k a n) (record_in xs c (k + n) (a + n) ∷ []) (run_in xs c k a (suc n))
        (map-append (λ (j : ℕ). record_in xs c (k + j) (a + j)) (below n) (n ∷ []))

    module _ (start count : List ℕ) where
      -- those of core c
      abbrev pub later_core : ℕ → Image → Image
      later_core c best = stepped (later_in s d b xs c (get_or start c 0)) best (get_or count c 0)

      -- those of the first n cores
      found_cores : (ks : List ℕ) (n : ℕ) → stepped later_core (found_image s d b None) n
          ≡ found_image s d b (newest s d b None (flat_map (λ (c : ℕ). run_in xs c (get_or ks c 0) (get_or start c 0) (get_or count c 0)) (below n)))
      unfolding stepped below flat_map newest
      found_cores ks zero = refl
      found_cores ks (suc n) =
          let run : ℕ → List Committed = λ c. run_in xs c (get_or ks c 0) (get_or start c 0) (get_or count c 0) in
          ap (later_core n) (found_cores ks n)
          ∙ found_run n (get_or ks n 0) (get_or start n 0) (newest s d b None (flat_map run (below n))) (get_or count n 0)
          ∙ found_more None (flat_map run (below n)) (run n) (flat_map run (below (suc n)))
          (flat_map_append run (below n) (n ∷ []) ∙ ap (λ (l : List Committed). flat_map run (below n) ++ l) (append-nil (run n)))

      pub newest_is : (x : Image) → x ≡ stepped later_core (record { stamp = 0; block = 1 + b; flag = 0 }) s.cores
          → (ks : List ℕ) → x ≡ found_image s d b (newest s d b None (records_in s xs ks start count))
      unfolding records_in found_image
      newest_is x e ks = e ∙ found_cores ks s.cores
