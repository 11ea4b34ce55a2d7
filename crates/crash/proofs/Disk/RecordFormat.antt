-- The record of a closed transaction of the ledger keeps the rules of the format, and is read back as what the ledger has
-- for it: blocks, names, stamp and images. Each of its blocks is 128 bytes; none is a commit of a higher number.
use Rattle.model.proofs.Base.{ℕ, zero, suc, ◌+◌, ◌-◌, ◌%◌, ◌≤◌, ◌<◌, arith, ◌≡◌, refl, sym, ap, ◌∙◌, true, false, not, List, []}
use Rattle.model.proofs.Base.{◌∷◌, ◌++◌, map, Memᴰ, length, get_or, length-map, list_get_or_map, ext_get_or, eqb, ltb, ne_eqb}
use Rattle.model.proofs.Base.{inl, inr, lt-ltb, ltb-true, le-leb, below, Bytes}
use Rattle.model.specs.Bytes.{be4, part, number}
use Rattle.model.specs.Card.{new_name}
use Rattle.model.specs.Layout.{Tag, new_tag, distinct, is_tag, flag_of, mark, has_head, escaped, descriptor_block, commit_block, highest_in}
use Rattle.model.specs.declared.Shape.{Shape}
use Rattle.model.specs.declared.Tail.{Tail}
use Rattle.model.specs.declared.Name.{Name}
use Rattle.model.specs.declared.Committed.{Committed}
use Rattle.model.specs.Lists.{Each}
use Rattle.model.proofs.Lists.{cases, and_both, all_mem, mem_all, get_or_mem, mem_get_or, length_below, get_or_map_below, get_or_each, mem_each}
use Rattle.model.proofs.Words.{IsByte, IsWord, each_block}
use Rattle.model.proofs.Encoding.{Encodable, length_descriptor, length_commit, length_escaped, descriptor_head_lem, commit_head_lem, head_other, escaped_head}
use Rattle.model.proofs.Highest.{highest_member}
use Rattle.model.proofs.Journal.{encoded_record as storedBlocks, IsLong as HasBlockSize, Images, as_read, length_encoded_record, encoded_record_each}
use Rattle.crash.specs.Book.{is_closed}
use Rattle.crash.specs.Ledger.{Ledger, record_tags, record_of}
use Rattle.crash.proofs.Disk.Relation.{Limits, WellFormed, IsBlock}
use Rattle.crash.proofs.Disk.LedgerStages.{closed_present}
use Rattle.crash.proofs.Disk.LedgerRanks.{sum_low}
use Rattle.crash.proofs.Disk.BlockBytes.{each_is_bytes, escaped_bytes}

-- ---- the list that the reader finds
-- the record of transaction t at a position
abbrev pub read_record : Ledger → Name → ℕ → Committed
read_record l t p =
    record {
      core = t.core;
      number = t.number;
      position = p;
      count = length (l.book.entry t).blocks;
      stamp = l.stamp t;
    }

-- those of n transactions of core c, from number i and a position on
unfoldable pub read_from : Ledger → ℕ → ℕ → ℕ → ℕ → List Committed
read_from l c i p zero = []
read_from l c i p (suc n) =
    read_record l (new_name c i) p ∷ read_from l c (suc i) ((p + (length (l.book.entry (new_name c i)).blocks + 2)) % l.shape.journal) n

-- core c's, from its tail on
unfoldable pub read_list : Ledger → ℕ → Tail → List Committed
read_list l c t = read_from l c (l.book.oldest c) t.position (l.book.uncommitted c - l.book.oldest c)

-- their blocks
unfoldable pub records_of : Ledger → ℕ → ℕ → ℕ → List Bytes
records_of l c i zero = []
records_of l c i (suc n) = record_of l (new_name c i) ++ records_of l c (suc i) n

-- ---- a record of the ledger keeps the rules of the format
pub length_record_tags : (l : Ledger) (t : Name) → length (record_tags l t) ≡ length (l.book.entry t).blocks
unfolding record_tags
length_record_tags l t = length-map (below (length (l.book.entry t).blocks)) _ ∙ length_below (length (l.book.entry t).blocks)

pub get_or_record_tags : (l : Ledger) (t : Name) (i : ℕ) → i < length (l.book.entry t).blocks
    → get_or (record_tags l t) i (new_tag 0 0) ≡ new_tag (get_or (l.book.entry t).blocks i 0) (flag_of (get_or (l.images t) i []))
unfolding record_tags
get_or_record_tags l t i h =
    get_or_map_below (λ (i : ℕ). new_tag (get_or (l.book.entry t).blocks i 0) (flag_of (get_or (l.images t) i []))) (length (l.book.entry t).blocks) i (new_tag 0 0) h

get_or_flags : (bs : List Bytes) (i : ℕ) → get_or (map flag_of bs) i 0 ≡ flag_of (get_or bs i [])
unfolding flag_of be4 part number
get_or_flags bs i = list_get_or_map flag_of bs i []

flag_low : (b : Bytes) → flag_of b ≤ 1
unfolding flag_of
flag_low b = cases (eqb (be4 b 0) mark) (λ h. rw h (omega arith)) (λ h. rw h (omega arith))

is_held : (s : Shape) (b g : ℕ) → b < s.blocks → g ≤ 1 → is_tag s (new_tag b g) ≡ true
unfolding is_tag
is_held s b g h z = and_both (lt-ltb b s.blocks h) (le-leb g 1 z)

distinct_of : (hs : List Tag) (z : Tag)
    → ((i j : ℕ) → i < length hs → j < length hs → (get_or hs i z).block ≡ (get_or hs j z).block → i ≡ j) → distinct hs ≡ true
unfolding distinct
distinct_of [] z f = refl
distinct_of (h ∷ hs) z f =
    and_both
    (mem_all (λ (g : Tag). not (eqb h.block g.block)) hs
    (λ g m.
    let x = mem_get_or m z in
    ap not
    (ne_eqb h.block g.block
    (λ e. let y : 0 ≡ suc x.0 = f 0 (suc x.0) (omega arith) (omega (arith, x.1)) (e ∙ ap (λ (u : Tag). u.block) (sym x.2)) in omega arith))))
    (distinct_of hs z (λ i j a b e. let y : suc i ≡ suc j = f (suc i) (suc j) (omega arith) (omega arith) e in omega arith))

-- ---- the highest number of each core that it names
module _ (l : Ledger) (t : Name) (named : (u : Name) → Memᴰ u (l.book.entry t).names → Limits l.shape u (l.book.entry u)) where
  highest_high : (c : ℕ) → IsWord (highest_in (l.book.entry t).names c)
  highest_high c =
      elim (highest_member (l.book.entry t).names c) [
        | inl z ↦ omega arith
        | inr m ↦ omega (arith, (named _ m).high)
      ]

  highest_far : (c : ℕ) → l.shape.cores ≤ c → highest_in (l.book.entry t).names c ≡ 0
  highest_far c g = elim (highest_member (l.book.entry t).names c) [ inl z ↦ z | inr m ↦ absurd (omega (arith, (named _ m).core)) ]

module _ {l : Ledger} (f : WellFormed l) (t : Name) (h : is_closed (l.book.entry t).stage ≡ true) where
  abbrev limits_of : Limits l.shape t (l.book.entry t)
  limits_of = f.limits t (closed_present _ h)

  pub record_sound : Encodable l.shape t.number (record_tags l t) (l.stamp t) (highest_in (l.book.entry t).names)
  record_sound =
      let m = limits_of in
      let n = length_record_tags l t in
      let z = f.frozen t h in
      let named : (u : Name) → Memᴰ u (l.book.entry t).names → Limits l.shape u (l.book.entry u) = λ u x. f.limits u (f.named t u x) in
      record {
        shape = f.range;
        number = m.high;
        few = omega (arith, m.few);
        held =
            mem_all (is_tag l.shape) (record_tags l t)
            (λ x i.
            let g = mem_get_or i (new_tag 0 0) in
            let b : g.0 < length (l.book.entry t).blocks = omega (arith, g.1) in
            let e : new_tag (get_or (l.book.entry t).blocks g.0 0) (flag_of (get_or (l.images t) g.0 [])) ≡ x = sym (get_or_record_tags l t g.0 b) ∙ g.2 in
            rw (← e) (is_held l.shape _ _ (m.blocks _ (get_or_mem (l.book.entry t).blocks g.0 0 b)) (flag_low (get_or (l.images t) g.0 []))));
        apart =
            distinct_of (record_tags l t) (new_tag 0 0)
            (λ i j a b e.
            let a₂ : i < length (l.book.entry t).blocks = omega arith in
            let b₂ : j < length (l.book.entry t).blocks = omega arith in
            m.distinct i j a₂ b₂ (ap (λ (u : Tag). u.block) (sym (get_or_record_tags l t i a₂)) ∙ e ∙ ap (λ (u : Tag). u.block) (get_or_record_tags l t j b₂)));
        stamped = z.low;
        stamp_fits =
            omega (arith, z.high, f.closes, f.range.few_cores, sum_low l.book l.shape.cores (λ c g. (f.ranks c g).top));
        cores = λ c _. highest_far l t named c;
        numbers = λ c _. highest_high l t named c;
      }

  pub record_images : Images (record_tags l t) (l.images t)
  record_images =
      let n = length_record_tags l t in
      let z = f.frozen t h in
      record {
        flags =
            ext_get_or 0 (map (λ (x : Tag). x.flag) (record_tags l t)) (map flag_of (l.images t))
            (length-map (record_tags l t) (λ (x : Tag). x.flag) ∙ n ∙ sym z.count ∙ sym (length-map (l.images t) flag_of))
            (λ i g.
            let b : i < length (l.book.entry t).blocks = omega (arith, length-map (record_tags l t) (λ (x : Tag). x.flag)) in
            list_get_or_map (λ (x : Tag). x.flag) (record_tags l t) i (new_tag 0 0) ∙ ap (λ (x : Tag). x.flag) (get_or_record_tags l t i b) ∙ sym (get_or_flags (l.images t) i));
        sizes = get_or_each HasBlockSize (l.images t) [] (λ i g. (z.images i g).size);
        bytes =
            get_or_each (Each IsByte) (l.images t) []
            (λ i g. let w = get_or (l.images t) i [] in mem_each IsByte w (λ x m. ltb-true x 256 (all_mem (λ (x : ℕ). ltb x 256) w (z.images i g).bytes m)));
      }

  pub length_record : length (record_of l t) ≡ length (l.book.entry t).blocks + 2
  unfolding record_of storedBlocks
  length_record =
      length_encoded_record t.number (record_tags l t) (l.stamp t) (highest_in (l.book.entry t).names) (l.images t) ∙ ap (λ (n : ℕ). n + 2) (f.frozen t h).count

pub as_read_lem : (l : Ledger) (t : Name) (p : ℕ) → as_read t.core p t.number (record_tags l t) (l.stamp t) ≡ read_record l t p
as_read_lem l t p = rw (length_record_tags l t)

-- ---- the blocks of a record, one by one
module _ (l : Ledger) (t : Name) where
  pub record_size : length (record_of l t) ≡ length (l.images t) + 2
  unfolding record_of storedBlocks
  record_size = length_encoded_record t.number (record_tags l t) (l.stamp t) (highest_in (l.book.entry t).names) (l.images t)

  pub record_each : (P : ℕ → Bytes → Type 0) → P 0 (descriptor_block t.number (record_tags l t))
      → ((i : ℕ) → i < length (l.images t) → P (suc i) (escaped (get_or (l.images t) i [])))
      → P (suc (length (l.images t))) (commit_block t.number (l.stamp t) (highest_in (l.book.entry t).names))
      → (i : ℕ) → i < length (record_of l t) → P i (get_or (record_of l t) i [])
  unfolding record_of storedBlocks
  record_each P a b c i g =
      encoded_record_each t.number (record_tags l t) (l.stamp t) (highest_in (l.book.entry t).names) (l.images t) P a b c i
      (omega (arith, length_encoded_record t.number (record_tags l t) (l.stamp t) (highest_in (l.book.entry t).names) (l.images t)))

module _ {l : Ledger} (f : WellFormed l) (t : Name) (h : is_closed (l.book.entry t).stage ≡ true) where
  pub record_blocks_lem : (i : ℕ) → i < length (record_of l t) → IsBlock (get_or (record_of l t) i [])
  unfolding descriptor_block commit_block
  record_blocks_lem =
      let s = record_sound f t h in
      let z = f.frozen t h in
      record_each l t (λ (i : ℕ) (b : Bytes). IsBlock b)
      (record { size = length_descriptor t.number (record_tags l t) s.few; bytes = each_is_bytes _ (each_block _) })
      (λ i g. let x = z.images i g in
      record { size = length_escaped (get_or (l.images t) i []) (omega (arith, x.size)) ∙ x.size; bytes = escaped_bytes (get_or (l.images t) i []) x.bytes })
      (record { size = length_commit t.number (l.stamp t) (highest_in (l.book.entry t).names); bytes = each_is_bytes _ (each_block _) })

  -- none is a commit of a higher number; only the last is a commit
  pub record_clear : (i n : ℕ) → i < length (record_of l t) → t.number ≤ n → (suc i ≡ length (record_of l t) → t.number < n)
      → has_head 2 n (get_or (record_of l t) i []) ≡ false
  record_clear i n g low last =
      let s = record_sound f t h in
      let size = record_size l t in
      record_each l t (λ (j : ℕ) (b : Bytes). (suc j ≡ length (record_of l t) → t.number < n) → has_head 2 n b ≡ false)
      (λ _. head_other 1 t.number 2 n _ (descriptor_head_lem s) (λ e _. omega arith))
      (λ j _ _. escaped_head (get_or (l.images t) j []) 2 n)
      (λ z. head_other 2 t.number 2 n _ (commit_head_lem s) (λ _ e. omega (arith, z (omega arith))))
      i g last
