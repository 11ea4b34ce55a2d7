-- Journals: where their blocks stand, that a record stored block by block is read back, and how a journal is read on.
-- A journal's reading looks at its own blocks only, and ends at the first position where no whole record stands.
use Prim.Native.Nat.{ℕ, zero, suc, ◌+◌, ◌*◌, ◌-◌, ◌/◌, ◌%◌, ◌≤◌, ◌<◌}
use native.Mathlib.Omega.{arith}
use native.Mathlib.Nat.{div-add-mod, mod-lt, mod-add-mod, mul-le-mul_left, mul-le-mul_right, mul-le-mul, mul-suc, add-zero}
use native.Mathlib.Numerals.{add-one}
use native.Mathlib.Decide.{dec_lt}
use mathlib.Core.Path.{◌≡◌, refl, ap, ◌∙◌, sym, subst}
use mathlib.Core.Logic.{◌≢◌}
use mathlib.Core.Bool.{true, false, cond, ◌&&◌, and-false}
use mathlib.Core.List.{List, [], ◌∷◌, ◌++◌, map}
use lib.ListN.{length, take, get_or, length-append, length-map, get_or-map, get_or-append}
use lib.Seq.{get_or_at, take_all}
use lib.Dec.{leb}
use borrow.Author.Tests.{le-leb, leb-true}
use Rattle.model.specs.Bytes.{Bytes, block_at, store, be4, part, number}
use Rattle.model.specs.Shape.{journal_block}
use Rattle.model.specs.Layout.{Tag, new_tag, has_head, descriptor_block, block_count, is_descriptor, commit_block, stamp_in, names_from, is_commit, flag_of, escaped}
use Rattle.model.specs.Journal.{journal_at, record_at, records_from, tags_of, names_of, image_of}
use Rattle.model.specs.declared.Shape.{Shape}
use Rattle.model.specs.declared.CommitLayout.{CommitLayout}
use Rattle.model.specs.declared.CommitLayout.TheVariants.{Numbers}
use Rattle.model.specs.declared.Committed.{Committed}
use Rattle.std.specs.Prelude.{Option, Some, None}
use Rattle.model.specs.Lists.{Each}
use Rattle.model.specs.Limits.{max_number}
use Rattle.model.proofs.Lists.{cases, and_left, and_right, each_append, each_get_or}
use Rattle.model.proofs.Store.{length_store, block_stored, block_other}
use Rattle.model.proofs.Words.{IsByte}
use Rattle.model.proofs.Limits.{InRange}
use Rattle.model.proofs.Encoding.{Encodable, length_descriptor, length_commit, descriptor_count, descriptor_tags, descriptor_read, commit_stamp, commit_names, commit_read, length_escaped, unescaped_escaped}

-- ---- where the blocks of a journal stand
pub journal_low : {s : Shape} → InRange s → (c p : ℕ) → c < s.cores → journal_block s c p < 257
unfolding journal_block
journal_low {s} l c p h =
    let j : 0 < s.journal = omega (arith, l.long) in
    omega (arith, l.few_blocks, l.short, mod-lt p j, mul-le-mul {n₁ = c} {n₂ = 7} (omega (arith, l.few_cores)) l.short)

-- the master block and the home blocks are no journal blocks
pub home_apart : (s : Shape) (c p k : ℕ) → k ≤ s.blocks → k ≢ journal_block s c p
unfolding journal_block
home_apart s c p k h e = omega arith

pub cores_apart : (s : Shape) (c p c₂ p₂ : ℕ) → 0 < s.journal → c ≢ c₂ → journal_block s c p ≢ journal_block s c₂ p₂
unfolding journal_block
cores_apart s c p c₂ p₂ j ne e =
    elim (dec_lt c c₂) [
      | yes lt ↦ omega (arith, mod-lt p j, mul-le-mul_right s.journal lt)
      | no ge ↦ omega (arith, mod-lt p₂ j, mul-le-mul_right {m = suc c₂} {n = c} s.journal (omega arith))
    ]

-- positions less than J apart are different
mod_apart : (j a b : ℕ) → a < b → b < a + j → a % j ≡ b % j → ⊥
mod_apart j a b h k e =
    elim (dec_lt (a / j) (b / j)) [
      | yes lt ↦ omega (arith, div-add-mod a j, div-add-mod b j, mul-le-mul_left j lt, mul-suc j (a / j))
      | no ge ↦ omega (arith, div-add-mod a j, div-add-mod b j, mul-le-mul_left {m = b / j} {n = a / j} j (omega arith))
    ]

pub journal_apart : (s : Shape) (c p i j : ℕ) → i < s.journal → j < s.journal → i ≢ j → journal_block s c (p + i) ≢ journal_block s c (p + j)
unfolding journal_block
journal_apart s c p i j hi hj ne e =
    elim (dec_lt i j) [
      | yes lt ↦ mod_apart s.journal (p + i) (p + j) (omega arith) (omega arith) (omega arith)
      | no ge ↦ mod_apart s.journal (p + j) (p + i) (omega arith) (omega arith) (omega arith)
    ]

-- positions count round modulo J
pub journal_wrap : (s : Shape) (c p i : ℕ) → journal_block s c (p % s.journal + i) ≡ journal_block s c (p + i)
unfolding journal_block
journal_wrap s c p i = rw (mod-add-mod p s.journal i)

-- ---- blocks stored one after the other, from a position on
unfoldable pub stores_at : Shape → ℕ → ℕ → List Bytes → Bytes → Bytes
stores_at s c p [] d = d
stores_at s c p (b ∷ bs) d = stores_at s c (p + 1) bs (store d (journal_block s c p) b)

abbrev pub IsLong : Bytes → Type 0
IsLong b = length b ≡ 128

next : (p i : ℕ) → p + suc i ≡ p + 1 + i
next p i = omega arith

module _ {s : Shape} (l : InRange s) (c : ℕ) (in_range_lem : c < s.cores) where
  fits : (p : ℕ) (d : Bytes) → length d ≡ 32896 → 128 * journal_block s c p + 128 ≤ length d
  fits p d n = omega (arith, journal_low l c p in_range_lem)

  -- what is elsewhere stays
  pub stores_other : (bs : List Bytes) (p : ℕ) (d : Bytes) → Each IsLong bs → length d ≡ 32896 → (k : ℕ)
      → ((i : ℕ) → i < length bs → k ≢ journal_block s c (p + i)) → block_at (stores_at s c p bs d) k ≡ block_at d k
  unfolding stores_at
  stores_other [] p d z n k h = refl
  stores_other (b ∷ bs) p d z n k h =
      let n₂ : length (store d (journal_block s c p) b) ≡ 32896 = length_store d (journal_block s c p) b (fits p d n) z.0 ∙ n in
      stores_other bs (p + 1) (store d (journal_block s c p) b) z.1 n₂ k (λ i hi. subst (λ (q : ℕ). k ≢ journal_block s c q) (next p i) (h (suc i) (omega arith)))
      ∙ block_other d (journal_block s c p) b (fits p d n) z.0 k (subst (λ (q : ℕ). k ≢ journal_block s c q) (add-zero p) (h 0 (omega arith)))

  apart : (p i : ℕ) → suc i < s.journal → journal_block s c p ≢ journal_block s c (p + 1 + i)
  apart p i h =
      rw (← next p i)
      (subst (λ (q : ℕ). journal_block s c q ≢ journal_block s c (p + suc i)) (add-zero p) (journal_apart s c p 0 (suc i) (omega arith) h (omega arith)))

  pub stores_in : (bs : List Bytes) (p : ℕ) (d : Bytes) → Each IsLong bs → length d ≡ 32896 → length bs ≤ s.journal → (i : ℕ) → i < length bs
      → journal_at s (stores_at s c p bs d) c (p + i) ≡ get_or bs i []
  unfolding stores_at journal_at
  stores_in [] p d z n m i h = absurd (omega arith)
  stores_in (b ∷ bs) p d z n m zero h =
      let n₂ : length (store d (journal_block s c p) b) ≡ 32896 = length_store d (journal_block s c p) b (fits p d n) z.0 ∙ n in
      rw (add-zero p)
      (stores_other bs (p + 1) (store d (journal_block s c p) b) z.1 n₂ (journal_block s c p) (λ i hi. apart p i (omega arith))
      ∙ block_stored d (journal_block s c p) b (fits p d n) z.0)
  stores_in (b ∷ bs) p d z n m (suc i) h =
      let n₂ : length (store d (journal_block s c p) b) ≡ 32896 = length_store d (journal_block s c p) b (fits p d n) z.0 ∙ n in
      rw (next p i) (stores_in bs (p + 1) (store d (journal_block s c p) b) z.1 n₂ (omega arith) i (omega arith))

-- ---- one record: its blocks in the order stored, and where they stand
unfoldable pub encoded_record : ℕ → List Tag → ℕ → (ℕ → ℕ) → List Bytes → List Bytes
encoded_record k hs stamp named images = descriptor_block k hs ∷ (map escaped images ++ (commit_block k stamp named ∷ []))

module _ (k : ℕ) (hs : List Tag) (stamp : ℕ) (named : ℕ → ℕ) (images : List Bytes) where
  pub length_encoded_record : length (encoded_record k hs stamp named images) ≡ length images + 2
  unfolding encoded_record
  length_encoded_record = simp length-append (omega (arith, length-map images escaped))

  -- what holds of the descriptor, of each image as it is stored and of the commit holds of each block
  pub encoded_record_each : (P : ℕ → Bytes → Type 0) → P 0 (descriptor_block k hs) → ((i : ℕ) → i < length images → P (suc i) (escaped (get_or images i [])))
      → P (suc (length images)) (commit_block k stamp named) → (i : ℕ) → i < length images + 2 → P i (get_or (encoded_record k hs stamp named images) i [])
  unfolding encoded_record
  encoded_record_each P a b c zero h = a
  encoded_record_each P a b c (suc i) h =
      let n = length-map images escaped in
      let last = commit_block k stamp named in
      let at : get_or (map escaped images) i [] ≡ escaped (get_or images i []) = unfold escaped be4 part number in get_or-map escaped images i [] in
      elim (dec_lt i (length images)) [
        | yes lt ↦ subst (P (suc i)) (sym (get_or-append (map escaped images) (last ∷ []) [] i (omega arith) ∙ at)) (b i lt)
        | no ge ↦ (let e : length images ≡ i = omega arith in
            subst (λ (j : ℕ). P (suc j) (get_or (map escaped images ++ (last ∷ [])) j [])) e
            (subst (P (suc (length images))) (sym (get_or_at (map escaped images) last [] [] (length images) n)) c))
      ]

-- blocks of bytes, with the flags that the descriptor has for them
pub record Images (hs : List Tag) (images : List Bytes) : Type 0 where
  pub flags : map (λ (h : Tag). h.flag) hs ≡ map flag_of images
  pub sizes : Each IsLong images
  pub bytes : Each (Each IsByte) images

images_length : {hs : List Tag} {images : List Bytes} → Images hs images → length images ≡ length hs
images_length {hs} {images} z =
    sym (length-map images flag_of) ∙ ap length (sym z.flags) ∙ length-map hs (λ (h : Tag). h.flag)

image_flag : {hs : List Tag} {images : List Bytes} → Images hs images → (i : ℕ) → (get_or hs i (new_tag 0 0)).flag ≡ flag_of (get_or images i [])
unfolding flag_of be4 part number
image_flag {hs} {images} z i =
    sym (get_or-map (λ (h : Tag). h.flag) hs i (new_tag 0 0)) ∙ ap (λ (l : List ℕ). get_or l i 0) z.flags ∙ get_or-map flag_of images i []

pub record Stands (s : Shape) (d : Bytes) (c p k : ℕ) (hs : List Tag) (stamp : ℕ) (named : ℕ → ℕ) (images : List Bytes) : Type 0 where
  pub descriptor : journal_at s d c p ≡ descriptor_block k hs
  pub data_blocks : (i : ℕ) → i < length hs → journal_at s d c (p + (i + 1)) ≡ escaped (get_or images i [])
  pub commit : journal_at s d c (p + (length hs + 1)) ≡ commit_block k stamp named

each_escaped : (images : List Bytes) → Each IsLong images → Each IsLong (map escaped images)
each_escaped [] z = tt
each_escaped (b ∷ bs) z = (length_escaped b (omega (arith, z.0)) ∙ z.0, each_escaped bs z.1)

-- a record whose blocks stand one after the other stands
pub record_stands : {s : Shape} {d : Bytes} {c p k : ℕ} {hs : List Tag} {stamp : ℕ} {named : ℕ → ℕ} {images : List Bytes} → length images ≡ length hs
    → ((q : ℕ) → q < length hs + 2 → journal_at s d c (p + q) ≡ get_or (encoded_record k hs stamp named images) q [])
    → Stands s d c p k hs stamp named images
unfolding encoded_record
record_stands {k = k} {hs = hs} {stamp = stamp} {named = named} {images = images} n read =
    let m : length (map escaped images) ≡ length hs = length-map images escaped ∙ n in
    record {
      descriptor = rw add-zero at (read 0 (omega arith));
      data_blocks =
          λ i h.
          read (i + 1) (omega arith)
          ∙ rw add-one (get_or-append (map escaped images) (commit_block k stamp named ∷ []) [] i (omega arith) ∙ (unfold escaped be4 part number in get_or-map escaped images i []));
      commit = read (length hs + 1) (omega arith) ∙ rw add-one (get_or_at (map escaped images) (commit_block k stamp named) [] [] (length hs) m);
    }

-- a record stored block by block stands
pub stored_stands : {s : Shape} {k : ℕ} {hs : List Tag} {stamp : ℕ} {named : ℕ → ℕ} {images : List Bytes} → Encodable s k hs stamp named → Images hs images
    → (d : Bytes) (c p : ℕ) → c < s.cores → length d ≡ 32896 → length hs + 2 ≤ s.journal
    → Stands s (stores_at s c p (encoded_record k hs stamp named images) d) c p k hs stamp named images
stored_stands {s} {k} {hs} {stamp} {named} {images} g z d c p h n j =
    let size : length (encoded_record k hs stamp named images) ≡ length hs + 2 = length_encoded_record k hs stamp named images ∙ ap (λ (i : ℕ). i + 2) (images_length z) in
    let whole : Each IsLong (encoded_record k hs stamp named images) =
    unfold encoded_record in (
      length_descriptor k hs g.few,
      each_append IsLong (map escaped images) (commit_block k stamp named ∷ []) (each_escaped images z.sizes) (length_commit k stamp named, tt),
    ) in
    record_stands (images_length z) (λ q l. stores_in g.shape c h (encoded_record k hs stamp named images) p d whole n (omega arith) q (omega arith))

-- ---- the record at a position
-- the record as it is read
abbrev pub as_read : ℕ → ℕ → ℕ → List Tag → ℕ → Committed
as_read c p k hs stamp = record { core = c; number = k; position = p; count = length hs; stamp = stamp }

module _ {s : Shape} {d : Bytes} {c p k : ℕ} {hs : List Tag} {stamp : ℕ} {named : ℕ → ℕ} {images : List Bytes} (g : Encodable s k hs stamp named)
    (st : Stands s d c p k hs stamp named images) where
  pub record_read : (left : ℕ) → length hs + 2 ≤ left → record_at Numbers s d c k p left ≡ Some (as_read c p k hs stamp)
  unfolding record_at
  record_read left h =
      simp (st.descriptor, descriptor_count g, st.commit, descriptor_read g, le-leb (length hs + 2) left h, commit_read g, commit_stamp g)

  pub tags_read : tags_of s d (as_read c p k hs stamp) ≡ hs
  unfolding tags_of
  tags_read = rw st.descriptor (descriptor_tags g)

  pub names_read : names_of Numbers s d (as_read c p k hs stamp) ≡ names_from named
  unfolding names_of
  names_read = rw st.commit (commit_names g)

  pub image_read : Images hs images → (i : ℕ) → i < length hs → image_of s d (as_read c p k hs stamp) i ≡ get_or images i []
  unfolding image_of
  image_read z i h =
      let n : i < length images = omega (arith, images_length z) in
      let size : length (get_or images i []) ≡ 128 = each_get_or IsLong images z.sizes i [] n in
      rw (tags_read, st.data_blocks i h, image_flag z i) (unescaped_escaped (get_or images i []) (omega arith) (each_get_or (Each IsByte) images z.bytes i [] n))

-- ---- a step of the reading
module _ (y : CommitLayout) (s : Shape) (d : Bytes) (c k p left : ℕ) where
  pub records_miss : (most : ℕ) → record_at y s d c k p left ≡ None → records_from most y s d c k p left ≡ []
  unfolding records_from
  records_miss zero h = refl
  records_miss (suc most) h = rw (h, records_from)

  pub records_hit : (most : ℕ) (e : Committed) → record_at y s d c k p left ≡ Some e
      → records_from (suc most) y s d c k p left ≡ e ∷ records_from most y s d c (k + 1) ((p + (e.count + 2)) % s.journal) (left - (e.count + 2))
  unfolding records_from
  records_hit most e h = rw (h, records_from)

  -- a commit that is not its own: a torn record, or a stale one
  pub miss_commit : is_commit y s k (journal_at s d c (p + (block_count (journal_at s d c p) + 1))) ≡ false → record_at y s d c k p left ≡ None
  unfolding record_at
  miss_commit h = rw (h, and-false) refl

-- ---- a record that was read
-- what is known of a record of core c with number k
pub record KnownRecord (y : CommitLayout) (s : Shape) (d : Bytes) (c k : ℕ) (e : Committed) : Type 0 where
  pub core : e.core ≡ c
  pub number : e.number ≡ k
  pub few : e.count ≤ 8
  pub descriptor : is_descriptor s k (journal_at s d c e.position) ≡ true
  pub count : block_count (journal_at s d c e.position) ≡ e.count
  pub commit : is_commit y s k (journal_at s d c (e.position + (e.count + 1))) ≡ true
  pub stamp : stamp_in (journal_at s d c (e.position + (e.count + 1))) ≡ e.stamp

pub descriptor_few : (s : Shape) (k : ℕ) (b : Bytes) → is_descriptor s k b ≡ true → block_count b ≤ 8
unfolding is_descriptor
descriptor_few s k b h = leb-true (block_count b) 8 (and_right (has_head 1 k b && leb k max_number) _ (and_left _ _ (and_left _ _ h)))

-- its number is at most 4,000,000,000
pub descriptor_number : (s : Shape) (k : ℕ) (b : Bytes) → is_descriptor s k b ≡ true → k ≤ max_number
unfolding is_descriptor
descriptor_number s k b h = leb-true k max_number (and_right (has_head 1 k b) _ (and_left _ _ (and_left _ _ (and_left _ _ h))))

pub found_cases : {A : Type 0} (r : Option Committed) → (r ≡ None → A) → ((e : Committed) → r ≡ Some e → A) → A
found_cases (Some e) f g = g e refl
found_cases None f g = f refl

module _ (y : CommitLayout) (s : Shape) (d : Bytes) (c : ℕ) where
  pub record_known : (k p left : ℕ) (e : Committed) → record_at y s d c k p left ≡ Some e → KnownRecord y s d c k e × (e.position ≡ p) × (e.count + 2 ≤ left)
  unfolding record_at
  record_known k p left e h =
      let b = journal_at s d c p in
      let n = block_count b in
      let f = journal_at s d c (p + (n + 1)) in
      let x : Committed = record { core = c; number = k; position = p; count = n; stamp = stamp_in f } in
      let t = is_descriptor s k b && leb (n + 2) left && is_commit y s k f in
      cases t
      (λ a.
      let dl = and_left (is_descriptor s k b && leb (n + 2) left) (is_commit y s k f) a in
      let ed = and_left (is_descriptor s k b) (leb (n + 2) left) dl in
      let ec = and_right (is_descriptor s k b && leb (n + 2) left) (is_commit y s k f) a in
      let w : cond t (Some x) None ≡ Some x = rw a in
      let q : Some x ≡ Some e = sym w ∙ h in
      let same : x ≡ e = cc in
      let size : n + 2 ≤ left = leb-true (n + 2) left (and_right (is_descriptor s k b) (leb (n + 2) left) dl) in
      let known : KnownRecord y s d c k x =
      record {
        core = refl;
        number = refl;
        few = descriptor_few s k b ed;
        descriptor = ed;
        count = refl;
        commit = ec;
        stamp = refl;
      } in
      subst (λ (r : Committed). KnownRecord y s d c k r × (r.position ≡ p) × (r.count + 2 ≤ left)) same (known, refl, size))
      (λ a.
      let w : cond t (Some x) None ≡ None = rw a in
      let q : Some e ≡ None = sym h ∙ w in
      let z : ◌≡◌ {A = ℕ} 0 1 = cc in
      absurd (omega arith))

  -- a record has two blocks or more
  pub no_room : (k p left : ℕ) → left < 2 → record_at y s d c k p left ≡ None
  no_room k p left h = found_cases (record_at y s d c k p left) (λ m. m) (λ e w. absurd (omega (arith, (record_known k p left e w).2)))

  -- every record read is a whole one, their numbers follow one another, and they stand at positions below J
  pub records_known : (most k p left i : ℕ) (z : Committed) → i < length (records_from most y s d c k p left)
      → KnownRecord y s d c (k + i) (get_or (records_from most y s d c k p left) i z) × (p < s.journal → (get_or (records_from most y s d c k p left) i z).position < s.journal)
  records_known zero k p left i z h = let l : i < 0 = unfold records_from in h in absurd (omega arith)
  records_known (suc most) k p left i z h =
      found_cases (record_at y s d c k p left)
      (λ miss. absurd (omega (arith, ap length (records_miss y s d c k p left (suc most) miss))))
      (λ e hit.
      let q = (p + (e.count + 2)) % s.journal in
      let rest = left - (e.count + 2) in
      let known = record_known k p left e hit in
      let eq : records_from (suc most) y s d c k p left ≡ e ∷ records_from most y s d c (k + 1) q rest = records_hit y s d c k p left most e hit in
      rw eq
      (step e (records_from most y s d c (k + 1) q rest) (known.0, λ j. omega (arith, known.1))
      (λ n l. let r = records_known most (k + 1) q rest n z l in (r.0, λ j. r.1 (mod-lt (p + (e.count + 2)) (omega arith)))) i (omega (arith, ap length eq))))
    where
      step : (e : Committed) (r : List Committed) → KnownRecord y s d c k e × (p < s.journal → e.position < s.journal)
          → ((n : ℕ) → n < length r → KnownRecord y s d c (k + 1 + n) (get_or r n z) × (p < s.journal → (get_or r n z).position < s.journal)) → (i : ℕ) → i < suc (length r)
          → KnownRecord y s d c (k + i) (get_or (e ∷ r) i z) × (p < s.journal → (get_or (e ∷ r) i z).position < s.journal)
      step e r a b zero l = rw (add-zero k) a
      step e r a b (suc n) l = rw (next k n) (b n (omega arith))

  -- each takes two blocks or more of those left
  pub records_length : (most k p left : ℕ) → 2 * length (records_from most y s d c k p left) ≤ left
  records_length zero k p left = unfold records_from in omega arith
  records_length (suc most) k p left =
      found_cases (record_at y s d c k p left)
      (λ miss. omega (arith, ap length (records_miss y s d c k p left (suc most) miss)))
      (λ e hit.
      omega (
        arith,
        ap length (records_hit y s d c k p left most e hit),
        (record_known k p left e hit).2,
        records_length most (k + 1) ((p + (e.count + 2)) % s.journal) (left - (e.count + 2)),
      ))

  -- at most n records are the first n of them
  pub records_take : (most more k p left : ℕ) → most ≤ more → records_from most y s d c k p left ≡ take most (records_from more y s d c k p left)
  records_take zero more k p left h = unfold records_from in refl
  records_take (suc most) zero k p left h = absurd (omega arith)
  records_take (suc most) (suc more) k p left h =
      found_cases (record_at y s d c k p left)
      (λ miss. records_miss y s d c k p left (suc most) miss ∙ ap (take (suc most)) (sym (records_miss y s d c k p left (suc more) miss)))
      (λ e hit.
      records_hit y s d c k p left most e hit
      ∙ ap (λ (r : List Committed). e ∷ r) (records_take most more (k + 1) ((p + (e.count + 2)) % s.journal) (left - (e.count + 2)) (omega arith))
      ∙ ap (take (suc most)) (sym (records_hit y s d c k p left more e hit)))

  -- half as many as blocks are left reads all
  pub records_all : (most more k p left : ℕ) → left ≤ 2 * most + 1 → most ≤ more → records_from most y s d c k p left ≡ records_from more y s d c k p left
  records_all most more k p left h m =
      records_take most more k p left m ∙ take_all most (records_from more y s d c k p left) (omega (arith, records_length more k p left))
