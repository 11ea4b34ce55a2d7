-- The loops over blocks and records answer whether two transactions share a block, and whether one of a set has a lower stamp and shares one.
use Rattle.model.proofs.Base.{ℕ, ◌+◌, ◌≤◌, ◌<◌, ◌≡◌, refl, ◌∙◌, Bool, false, List, eqb, lt-ltb, le-ltb, any, Bytes}
use Rattle.model.specs.Layout.{new_tag, pair_at}
use Rattle.model.specs.Journal.{journal_at, tags_of, blocks_of, took}
use Rattle.model.specs.Checkpoint.{share}
use Rattle.model.specs.declared.Shape.{Shape}
use Rattle.model.specs.declared.Committed.{Committed}
use Rattle.layout.specs.Loops.{some}
use Rattle.journal.specs.declared.extents.Extent.{Extent}
use Rattle.journal.specs.Records.{committed_in, extent_at, record_in, records_in, descriptor_blocks}
use Rattle.images.specs.Newest.{shares_below, asked_in}
use Rattle.images.proofs.Steps.{blocks_some, asked_core, asked_all}

-- ---- shared blocks
module _ (s : Shape) (d : Bytes) (g : Committed) (f : Bytes) where
  -- the i-th block of descriptor f is one that g took
  abbrev pub took_at : ℕ → Bool
  took_at i = took s d (pair_at new_tag f 16 i).block g

  pub share_is : (n : ℕ) (r : Bool) → r ≡ some n took_at → r ≡ share (descriptor_blocks f n) (blocks_of s d g)
  unfolding share took
  share_is n r e = e ∙ blocks_some (λ (b : ℕ). any (eqb b) (blocks_of s d g)) f n

module _ (s : Shape) (d : Bytes) (e g : Committed) where
  pub stamp_not : e.stamp ≤ g.stamp → false ≡ shares_below s d e g
  unfolding shares_below
  stamp_not h = rw (le-ltb g.stamp e.stamp h)

  pub stamp_shares : (f : Bytes) (r : Bool) → f ≡ journal_at s d e.core e.position → r ≡ share (descriptor_blocks f e.count) (blocks_of s d g)
      → g.stamp < e.stamp → r ≡ shares_below s d e g
  unfolding shares_below descriptor_blocks blocks_of tags_of
  stamp_shares f r q h l = h ∙ rw (q, lt-ltb g.stamp e.stamp l)

-- ---- one of a set
module _ (p : Committed → Bool) (xs : List Extent) where
  pub asked_in_lem : (c a j : ℕ) (f : Committed) (r : Bool) → f ≡ committed_in c 0 (extent_at xs (a + j)) → r ≡ p f → r ≡ asked_in p xs c a j
  unfolding asked_in record_in
  asked_in_lem c a j f r e h = h ∙ rw e

pub shares_is : (s : Shape) (d : Bytes) (e : Committed) (xs : List Extent) (start count : List ℕ) (r : Bool) → r ≡ some s.cores (asked_core (shares_below s d e) xs start count)
    → (ks : List ℕ) → r ≡ any (shares_below s d e) (records_in s xs ks start count)
unfolding shares_below blocks_of tags_of record_in
shares_is s d e xs start count r h ks = h ∙ asked_all (shares_below s d e) xs (λ c k i. refl) s ks start count
