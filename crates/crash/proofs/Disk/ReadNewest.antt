-- The image that recovery takes for a block is the target's: the newest valid record of it is that of the ledger's holder.
-- The reader's choice has the highest stamp of those that took the block, the ledger's holder too, and no two closed
-- transactions have one stamp. A transaction took a block once, so its place in the record is the ledger's.
use Rattle.model.proofs.Base.{ℕ, ◌-◌, ◌≤◌, ◌<◌, arith, ◌≡◌, refl, sym, ap, ◌∙◌, ◌⊎◌, inl, inr, true, false, List, [], ◌∷◌}
use Rattle.model.proofs.Base.{Memᴰ, mem_head, mem_tail, mem_not_nil, mem_cases_cons}
use Rattle.model.proofs.Base.{mem_eq_of_singleton, mem_cast, length, get_or, eqb, leb, eq-eqb, eqb-true, leb-true, leb-false}
use Rattle.model.proofs.Base.{any, Bytes}
use Rattle.model.specs.Journal.{journals, name_of, blocks_of, took}
use Rattle.model.specs.Valid.{in_sequence, valid_set, later, newest}
use Rattle.model.specs.Recovery.{shape_on, layout_on, valid_on_by, place_of, image_found, newest_image}
use Rattle.model.specs.declared.Shape.{Shape}
use Rattle.model.specs.declared.Tail.{Tail}
use Rattle.model.specs.declared.Name.{Name}
use Rattle.model.specs.declared.CommitLayout.{CommitLayout}
use Rattle.model.specs.declared.Committed.{Committed}
use Rattle.std.specs.Prelude.{Option, Some, None}
use Rattle.model.proofs.Lists.{cases, get_or_mem}
use Rattle.crash.specs.Book.{is_closed}
use Rattle.crash.specs.Ledger.{Ledger}
use Rattle.crash.proofs.Books.Tests.{clash, any_in, in_any, block_equality}
use Rattle.crash.proofs.Disk.Relation.{WellFormed, DiskStands, Newest, target}
use Rattle.crash.proofs.Disk.LedgerStages.{closed_present}
use Rattle.crash.proofs.Disk.ReadMaster.{shape_read}
use Rattle.crash.proofs.Disk.ReadRecords.{ReadAsLedger, few_records}
use Rattle.crash.proofs.Disk.ReadValid.{valid_name, valid_read, valid_are, own_tails, valid_on}

-- ---- the newest of a list
module _ (s : Shape) (d : Bytes) (b : ℕ) where
  -- the highest stamp of those that took the block
  record Highest (es : List Committed) (top : Committed) : Type 0 where
    among : Memᴰ top es
    took_it : took s d b top ≡ true
    most : (e : Committed) → Memᴰ e es → took s d b e ≡ true → e.stamp ≤ top.stamp

  newest_later : (best : Option Committed) (x : Committed) (es : List Committed) → took s d b x ≡ true → newest s d b best (x ∷ es) ≡ newest s d b (Some (later best x)) es
  unfolding newest
  newest_later best x es h = rw h

  newest_skip : (best : Option Committed) (x : Committed) (es : List Committed) → took s d b x ≡ false → newest s d b best (x ∷ es) ≡ newest s d b best es
  unfolding newest
  newest_skip best x es h = rw h

  -- y stands for a and x: it is one of them, and neither has a higher stamp
  highest_of : {a x y top : Committed} (es : List Committed) → (y ≡ a) ⊎ (y ≡ x) → took s d b y ≡ true → a.stamp ≤ y.stamp
      → (took s d b x ≡ true → x.stamp ≤ y.stamp) → Highest (y ∷ es) top → Highest (a ∷ x ∷ es) top
  highest_of {a} {x} {y} {top} es o t p q r =
      let high : y.stamp ≤ top.stamp = r.most y (mem_head refl) t in
      record {
        among =
            elim (mem_cases_cons r.among) [
              | inl e ↦ elim o [ inl g ↦ mem_head (e ∙ g) | inr g ↦ mem_tail (mem_head (e ∙ g)) ]
              | inr m ↦ mem_tail (mem_tail m)
            ];
        took_it = r.took_it;
        most =
            λ e m g.
            elim (mem_cases_cons m) [
              | inl i ↦ omega (arith, ap (λ (k : Committed). k.stamp) i)
              | inr n ↦ elim (mem_cases_cons n) [
                | inl i ↦ omega (arith, ap (λ (k : Committed). k.stamp) i, q (ap (took s d b) (sym i) ∙ g))
                | inr j ↦ r.most e (mem_tail j) g
              ]
            ];
      }

  newest_over : (a : Committed) (es : List Committed) → took s d b a ≡ true → (top : Committed) × (newest s d b (Some a) es ≡ Some top) × Highest (a ∷ es) top
  unfolding newest later
  newest_over a [] h = (
    a,
    refl,
    record {
      among = mem_head refl;
      took_it = h;
      most = λ e m g. omega (arith, ap (λ (k : Committed). k.stamp) (mem_eq_of_singleton m));
    },
  )
  newest_over a (x ∷ es) h =
      cases (took s d b x)
      (λ k.
      cases (leb a.stamp x.stamp)
      (λ o. let r = newest_over x es k in (r.0, newest_later (Some a) x es k ∙ rw o r.1, highest_of es (inr refl) k (leb-true _ _ o) (λ t. omega arith) r.2))
      (λ o.
      let r = newest_over a es h in
      let w : x.stamp < a.stamp = leb-false a.stamp x.stamp o in
      (r.0, newest_later (Some a) x es k ∙ rw o r.1, highest_of es (inl refl) h (omega arith) (λ t. omega arith) r.2)))
      (λ k. let r = newest_over a es h in (r.0, newest_skip (Some a) x es k ∙ r.1, highest_of es (inl refl) h (omega arith) (λ t. clash t k) r.2))

  newest_highest : (es : List Committed) (e : Committed) → Memᴰ e es → took s d b e ≡ true → (top : Committed) × (newest s d b None es ≡ Some top) × Highest es top
  unfolding later
  newest_highest [] e m h = absurd (mem_not_nil m)
  newest_highest (x ∷ es) e m h =
      cases (took s d b x)
      (λ k. let r = newest_over x es k in (r.0, newest_later None x es k ∙ r.1, r.2))
      (λ k.
      elim (mem_cases_cons m) [
        | inl q ↦ clash h (ap (took s d b) q ∙ k)
        | inr n ↦ (let r = newest_highest es e n h in let v = r.2 in (
          r.0,
          newest_skip None x es k ∙ r.1,
          record {
            among = mem_tail v.among;
            took_it = v.took_it;
            most = λ f i g. elim (mem_cases_cons i) [ inl q ↦ clash g (ap (took s d b) q ∙ k) | inr j ↦ v.most f j g ];
          },
        ))
      ])

-- ---- a block's place in a list
place_in : (b : ℕ) (bs : List ℕ) → Memᴰ b bs → (place_of b bs < length bs) × (get_or bs (place_of b bs) 0 ≡ b)
unfolding place_of
place_in b [] m = absurd (mem_not_nil m)
place_in b (x ∷ bs) m =
    cases (eqb b x)
    (λ h. rw h (omega arith, sym (eqb-true b x h)))
    (λ h.
    elim (mem_cases_cons m) [
      | inl e ↦ clash (eq-eqb b x e) h
      | inr n ↦ (let r = place_in b bs n in rw h (omega (arith, r.0), r.1))
    ])

-- ---- the ledger's holder
took_read : {y : CommitLayout} {l : Ledger} {d : Bytes} {c : ℕ} {e : Committed} (b : ℕ) → ReadAsLedger y l d c e → took l.shape d b e ≡ any (eqb b) (l.book.entry (name_of e)).blocks
unfolding took
took_read b r = rw r.blocks

module _ {y : CommitLayout} {l : Ledger} {d : Bytes} {tail_at : ℕ → Tail} (f : WellFormed l) (z : DiskStands y l d tail_at) {b : ℕ} (n : Newest l b) where
  abbrev taken_by : Memᴰ b (l.book.entry n.holder).blocks
  taken_by = mem_cast (sym n.block) (get_or_mem (l.book.entry n.holder).blocks n.place 0 n.within)

  newest_read : (most : ℕ → ℕ) → ((c : ℕ) → c < l.shape.cores → l.book.uncommitted c - l.book.oldest c ≤ most c)
      → (e : Committed) × (newest l.shape d b None (valid_set in_sequence y l.shape d tail_at (journals y l.shape d tail_at most)) ≡ Some e)
      × Memᴰ e (valid_set in_sequence y l.shape d tail_at (journals y l.shape d tail_at most)) × (name_of e ≡ n.holder)
  newest_read most enough =
      let vs = valid_set in_sequence y l.shape d tail_at (journals y l.shape d tail_at most) in
      let h = valid_read f z most enough n.holder n.valid in
      let x = valid_are f z most enough h.0 h.1 in
      let t : took l.shape d b h.0 ≡ true = took_read b x ∙ in_any block_equality (rw h.2 taken_by) in
      let r = newest_highest l.shape d b vs h.0 h.1 t in
      let e = r.0 in
      let v = r.2 in
      let a = valid_are f z most enough e v.among in
      let m : l.stamp (name_of e) ≤ l.stamp n.holder =
      n.highest (name_of e) (valid_name f z most enough e v.among) (any_in block_equality b (l.book.entry (name_of e)).blocks (sym (took_read b a) ∙ v.took_it)) in
      let o : h.0.stamp ≡ l.stamp n.holder = x.stamp ∙ ap l.stamp h.2 in
      let closed : is_closed (l.book.entry n.holder).stage ≡ true = rw h.2 at x.unretired.is_closed_lem in (
        e,
        r.1,
        v.among,
        f.stamps (name_of e) n.holder a.unretired.is_closed_lem closed (omega (arith, a.stamp, v.most h.0 h.1 t)),
      )

  image_found_lem : (c : ℕ) (e : Committed) → ReadAsLedger y l d c e → name_of e ≡ n.holder → image_found d b (Some e) ≡ target l b
  unfolding image_found
  image_found_lem c e r h =
      let bs = (l.book.entry n.holder).blocks in
      let p = place_in b bs taken_by in
      let same : place_of b bs ≡ n.place =
      (f.limits n.holder (closed_present _ (rw h at r.unretired.is_closed_lem))).distinct (place_of b bs) n.place p.0 n.within (p.1 ∙ sym n.block) in
      let blocks : blocks_of l.shape d e ≡ bs = r.blocks ∙ ap (λ (t : Name). (l.book.entry t).blocks) h in
      let count : e.count ≡ length bs = r.count ∙ ap (λ (t : Name). length (l.book.entry t).blocks) h in
      rw (shape_read f z, blocks, same)
      (r.images n.place (omega (arith, n.within)) ∙ ap (λ (t : Name). get_or (l.images t) n.place []) h ∙ n.image)

-- 'Each block held in the valid set gets the image of highest stamp': the target's
pub newest_image_lem : {y : CommitLayout} {l : Ledger} {d : Bytes} {tail_at : ℕ → Tail} → WellFormed l → DiskStands y l d tail_at → {b : ℕ} → Newest l b
    → newest_image in_sequence (layout_on d) d b ≡ target l b
unfolding newest_image
newest_image_lem {l = l} {d = d} f z {b} n =
    let own = own_tails f z in
    let few = few_records f z in
    let r = newest_read f own n (λ (c : ℕ). l.shape.journal) few in
    let g : newest (shape_on d) d b None (valid_on_by in_sequence (layout_on d) d) ≡ Some r.0 = rw (shape_read f z, valid_on f z) r.1 in
    ap (image_found d b) g ∙ image_found_lem f z n r.0.core r.0 (valid_are f own (λ (c : ℕ). l.shape.journal) few r.0 r.2) r.3
