-- Paper 02, request (b), sentence by sentence: each answer of the reader is given exactly under its reason, and a journal is read to the
-- first position where none is.
use Rattle.model.proofs.Base.{ℕ, zero, suc, ◌+◌, ◌-◌, ◌*◌, ◌%◌, ◌≤◌, ◌<◌, min, arith, ◌≡◌, refl, sym, ap, ◌∙◌, ◌≢◌, ◌⊎◌, inl, inr}
use Rattle.model.proofs.Base.{Bool, true, false, not, ◌&&◌, ◌||◌, List, [], ◌∷◌, length, get_or, eqb, ltb, leb, eqb-true, eqb-false, eq-eqb, ne_eqb, ltb-true, ltb-false}
use Rattle.model.proofs.Base.{lt-ltb, le-ltb, leb-true, le-leb, not-true, not-false, true≢false, ap₂, all, below, Bytes}
use Rattle.model.specs.Limits.{max_taken, max_number}
use Rattle.model.specs.Card.{new_name}
use Rattle.model.specs.Layout.{Tag, new_tag, has_head, pair_at, pairs_in, block_count, tags_in, distinct, is_tag, is_commit, stamp_in, name_count, number_named, names_in, few_names, is_listable}
use Rattle.model.specs.Journal.{journal_at, record_at, records_from, journal}
use Rattle.model.specs.JournalEnds.{lacks_descriptor, has_bad_field, read_record, end_number, record_answer, end_from, journal_end}
use Rattle.model.specs.declared.Shape.{Shape}
use Rattle.model.specs.declared.Tail.{Tail}
use Rattle.model.specs.declared.CommitLayout.{CommitLayout}
use Rattle.model.specs.declared.CommitLayout.TheVariants.{Lists, Numbers}
use Rattle.model.specs.declared.Committed.{Committed}
use Rattle.std.specs.Prelude.{None, Result, Ok, Err}
use Rattle.model.specs.declared.JournalEnd.{JournalEnd}
use Rattle.model.specs.declared.JournalEnd.TheVariants.{NoDescriptor, BadDescriptor, TooFewBlocks, NoCommit}
use Rattle.model.proofs.Lists.{cases, and_both, and_left, and_right, or_left, or_right, or_cases, or_none, all_mem, mem_all, get_or_mem, mem_get_or, length_below, get_or_map_below}
use Rattle.model.proofs.Named.{numbers_listable, listable_numbers}
use Rattle.model.proofs.Journal.{records_miss, records_hit, record_known, no_room, found_cases}
use Rattle.model.proofs.JournalEnds.{found_by, same_found, whole_read, end_here, end_on}
use lib.ListN.{length-map}

-- ---- the sentences
-- '1, no descriptor of the expected number, that number above 4,000,000,000, or no block left for one'
unfoldable pub Lacks : ℕ → ℕ → Bytes → Type 0
Lacks k left b = (left ≡ 0) ⊎ ((max_number < k) ⊎ (has_head 1 k b ≡ false))

-- the opposite of '2, a descriptor field out of range or a block twice'
pub record FieldsFit (s : Shape) (b : Bytes) : Type 0 where
  pub few : block_count b ≤ 8
  pub blocks : (i : ℕ) → i < block_count b → (pair_at new_tag b 16 i).block < s.blocks
  pub flags : (i : ℕ) → i < block_count b → (pair_at new_tag b 16 i).flag ≤ 1
  pub once : (i j : ℕ) → i < j → j < block_count b → (pair_at new_tag b 16 i).block ≢ (pair_at new_tag b 16 j).block

-- what a commit names is in range: of a list 'up to 12 names, each core below C and number 1 or more'
pub record ListFits (s : Shape) (b : Bytes) : Type 0 where
  pub few : name_count b ≤ 12
  pub cores : (i : ℕ) → i < name_count b → (pair_at new_name b 24 i).core < s.cores
  pub numbers : (i : ℕ) → i < name_count b → 1 ≤ (pair_at new_name b 24 i).number

-- and of numbers: 'A number for a core not below C is out of range'
abbrev pub NamesFit : CommitLayout → Shape → Bytes → Type 0
NamesFit Lists s b = ListFits s b
NamesFit Numbers s b = (c : ℕ) → c < 8 → s.cores ≤ c → number_named b c ≡ 0

-- the opposite of '4, no commit of that number with its fields in range'
pub record CommitFits (y : CommitLayout) (s : Shape) (k : ℕ) (b : Bytes) : Type 0 where
  pub head : has_head 2 k b ≡ true
  pub stamp : 1 ≤ stamp_in b
  pub named : NamesFit y s b

-- ---- a list of pairs, and distinct blocks
module _ {A : Type 0} (make : ℕ → ℕ → A) (b : Bytes) (at n : ℕ) where
  count_read : length (pairs_in make b at n) ≡ n
  unfolding pairs_in
  count_read = length-map (below n) (pair_at make b at) ∙ length_below n

  pair_read : (i : ℕ) → i < n → get_or (pairs_in make b at n) i (make 0 0) ≡ pair_at make b at i
  unfolding pairs_in
  pair_read i l = get_or_map_below (pair_at make b at) n i (make 0 0) l

  all_each : (q : A → Bool) → all q (pairs_in make b at n) ≡ true → (i : ℕ) → i < n → q (pair_at make b at i) ≡ true
  all_each q h i l =
      ap q (sym (pair_read i l)) ∙ all_mem q (pairs_in make b at n) h (get_or_mem (pairs_in make b at n) i (make 0 0) (omega (arith, count_read)))

  each_all : (q : A → Bool) → ((i : ℕ) → i < n → q (pair_at make b at i) ≡ true) → all q (pairs_in make b at n) ≡ true
  each_all q h =
      mem_all q (pairs_in make b at n)
      (λ x m.
      let g = mem_get_or m (make 0 0) in
      let l : g.0 < n = omega (arith, g.1, count_read) in
      ap q (sym g.2 ∙ pair_read g.0 l) ∙ h g.0 l)

-- no two of the first are the same
abbrev Unlike : List Tag → Type 0
Unlike hs = (i j : ℕ) → i < j → j < length hs → (get_or hs i (new_tag 0 0)).block ≢ (get_or hs j (new_tag 0 0)).block

unlike : Tag → Tag → Bool
unlike h g = not (eqb h.block g.block)

distinct_unlike : (hs : List Tag) → distinct hs ≡ true → Unlike hs
unfolding distinct unlike
distinct_unlike [] h i j l m = absurd (omega arith)
distinct_unlike (x ∷ xs) h i zero l m = absurd (omega arith)
distinct_unlike (x ∷ xs) h zero (suc j) l m =
    eqb-false _ _ (not-true _ (all_mem (unlike x) xs (and_left (all (unlike x) xs) (distinct xs) h) (get_or_mem xs j (new_tag 0 0) (omega arith))))
distinct_unlike (x ∷ xs) h (suc i) (suc j) l m = distinct_unlike xs (and_right (all (unlike x) xs) (distinct xs) h) i j (omega arith) (omega arith)

unlike_distinct : (hs : List Tag) → Unlike hs → distinct hs ≡ true
unfolding distinct unlike
unlike_distinct [] u = refl
unlike_distinct (x ∷ xs) u =
    and_both
    (mem_all (unlike x) xs
    (λ y m.
    let g = mem_get_or m (new_tag 0 0) in
    ap not (ne_eqb x.block y.block (λ z. u 0 (suc g.0) (omega arith) (omega (arith, g.1)) (z ∙ ap (λ (h : Tag). h.block) (sym g.2))))))
    (unlike_distinct xs (λ i j l m. u (suc i) (suc j) (omega arith) (omega arith)))

-- ---- the tests ask what the sentences say
module _ (k left : ℕ) (b : Bytes) where
  lacks_says : lacks_descriptor k left b ≡ true → Lacks k left b
  unfolding lacks_descriptor Lacks
  lacks_says h =
      elim (or_cases (eqb left 0 || ltb max_number k) (not (has_head 1 k b)) h) [
        | inr y ↦ inr (inr (not-true _ y))
        | inl g ↦ elim (or_cases (eqb left 0) (ltb max_number k) g) [ inl z ↦ inl (eqb-true left 0 z) | inr x ↦ inr (inl (ltb-true max_number k x)) ]
      ]

  lacks_asks : Lacks k left b → lacks_descriptor k left b ≡ true
  unfolding lacks_descriptor Lacks
  lacks_asks (inl z) = or_left _ (or_left _ (eq-eqb left 0 z))
  lacks_asks (inr (inl x)) = or_left _ (or_right (eqb left 0) (lt-ltb max_number k x))
  lacks_asks (inr (inr y)) = or_right (eqb left 0 || ltb max_number k) (ap not y)

block_read : (b : Bytes) (n i : ℕ) → i < n → (get_or (tags_in b n) i (new_tag 0 0)).block ≡ (pair_at new_tag b 16 i).block
unfolding tags_in
block_read b n i l = ap (λ (h : Tag). h.block) (pair_read new_tag b 16 n i l)

module _ (s : Shape) (b : Bytes) where
  fields_say : has_bad_field s b ≡ false → FieldsFit s b
  unfolding has_bad_field tags_in is_tag
  fields_say h =
      let n = block_count b in
      let g = or_none _ _ h in
      let f = or_none _ _ g.0 in
      let tags = all_each new_tag b 16 n (is_tag s) (not-false _ f.1) in
      let two = distinct_unlike (tags_in b n) (not-false _ g.1) in
      record {
        few = ltb-false max_taken n f.0;
        blocks = λ i l. ltb-true _ _ (and_left _ _ (tags i l));
        flags = λ i l. leb-true _ _ (and_right (ltb (pair_at new_tag b 16 i).block s.blocks) _ (tags i l));
        once = λ i j l m z.
            two i j l (omega (arith, count_read new_tag b 16 n))
            (block_read b n i (omega arith) ∙ z ∙ sym (block_read b n j m));
      }

  fields_ask : FieldsFit s b → has_bad_field s b ≡ false
  unfolding has_bad_field tags_in is_tag
  fields_ask f =
      let n = block_count b in
      let tags : all (is_tag s) (tags_in b n) ≡ true = each_all new_tag b 16 n (is_tag s) (λ i l. and_both (lt-ltb _ _ (f.blocks i l)) (le-leb _ _ (f.flags i l))) in
      let two : distinct (tags_in b n) ≡ true =
      unlike_distinct (tags_in b n)
      (λ i j l m z.
      let q : j < n = omega (arith, count_read new_tag b 16 n) in
      f.once i j l q (sym (block_read b n i (omega arith)) ∙ z ∙ block_read b n j q)) in
      rw (le-ltb max_taken n f.few, tags, two)

module _ (s : Shape) (b : Bytes) where
  names_say : (y : CommitLayout) → few_names y b ≡ true → all (is_listable s) (names_in y b) ≡ true → NamesFit y s b
  unfolding few_names names_in is_listable
  names_say Lists g h =
      let few : name_count b ≤ 12 = leb-true _ _ g in
      let all_of : min (name_count b) 12 ≡ name_count b = omega arith in
      let names : (i : ℕ) → i < name_count b → is_listable s (pair_at new_name b 24 i) ≡ true = all_each new_name b 24 (name_count b) (is_listable s) (rw all_of at h) in
      record {
        few = few;
        cores = λ i l. ltb-true _ _ (and_left _ _ (names i l));
        numbers = λ i l. leb-true _ _ (and_right (ltb (pair_at new_name b 24 i).core s.cores) _ (names i l));
      }
  names_say Numbers g h = listable_numbers s (number_named b) h

  names_ask : (y : CommitLayout) → NamesFit y s b → (few_names y b ≡ true) × (all (is_listable s) (names_in y b) ≡ true)
  unfolding few_names names_in is_listable
  names_ask Lists f =
      let all_of : min (name_count b) 12 ≡ name_count b = omega (arith, f.few) in
      rw all_of
      (le-leb _ _ f.few, each_all new_name b 24 (name_count b) (is_listable s) (λ i l. and_both (lt-ltb _ _ (f.cores i l)) (le-leb _ _ (f.numbers i l))))
  names_ask Numbers f = (refl, numbers_listable s (number_named b) f)

module _ (y : CommitLayout) (s : Shape) (k : ℕ) (b : Bytes) where
  commit_says : is_commit y s k b ≡ true → CommitFits y s k b
  unfolding is_commit
  commit_says h =
      let heads = has_head 2 k b && leb 1 (stamp_in b) in
      let g = and_left (heads && few_names y b) (all (is_listable s) (names_in y b)) h in
      let f = and_left heads (few_names y b) g in
      record {
        head = and_left (has_head 2 k b) (leb 1 (stamp_in b)) f;
        stamp = leb-true _ _ (and_right (has_head 2 k b) (leb 1 (stamp_in b)) f);
        named = names_say s b y (and_right heads (few_names y b) g) (and_right (heads && few_names y b) (all (is_listable s) (names_in y b)) h);
      }

  commit_asks : CommitFits y s k b → is_commit y s k b ≡ true
  unfolding is_commit
  commit_asks f =
      let n = names_ask s b y f.named in
      and_both (and_both (and_both f.head (le-leb _ _ f.stamp)) n.0) n.1

-- ---- each answer and its reason
module _ (y : CommitLayout) (s : Shape) (d : Bytes) (c k p left : ℕ) where
  abbrev first : Bytes
  first = journal_at s d c p

  abbrev count : ℕ
  count = block_count first

  abbrev last : Bytes
  last = journal_at s d c (p + (count + 1))

  -- 'The first that fits is answered.': its sentence, and none before it
  unfoldable pub Reason : Result Committed JournalEnd → Type 0
  Reason (Err NoDescriptor) = Lacks k left first
  Reason (Err BadDescriptor) = (Lacks k left first → ⊥) × (FieldsFit s first → ⊥)
  Reason (Err TooFewBlocks) = (Lacks k left first → ⊥) × FieldsFit s first × (left < count + 2)
  Reason (Err NoCommit) = (Lacks k left first → ⊥) × FieldsFit s first × (count + 2 ≤ left) × (CommitFits y s k last → ⊥)
  Reason (Ok e) =
      (Lacks k left first → ⊥) × FieldsFit s first × (count + 2 ≤ left) × CommitFits y s k last
      × (record { core = c; number = k; position = p; count = count; stamp = stamp_in last } ≡ e)

  lacks_none : lacks_descriptor k left first ≡ false → Lacks k left first → ⊥
  lacks_none h l = true≢false (sym (lacks_asks k left first l) ∙ h)

  none_lacks : (Lacks k left first → ⊥) → lacks_descriptor k left first ≡ false
  none_lacks h = cases (lacks_descriptor k left first) (λ t. absurd (h (lacks_says k left first t))) (λ f. f)

  pub reason : Reason (read_record y s d c k p left)
  unfolding read_record Reason
  reason =
      cases (lacks_descriptor k left first) (λ h. rw h (lacks_says k left first h))
      (λ h.
      cases (has_bad_field s first)
      (λ g. rw (h, g) (lacks_none h, λ f. true≢false (sym g ∙ fields_ask s first f)))
      (λ g.
      cases (ltb left (count + 2))
      (λ m. rw (h, g, m) (lacks_none h, fields_say s first g, ltb-true left (count + 2) m))
      (λ m.
      cases (is_commit y s k last)
      (λ w. rw (h, g, m, w) (lacks_none h, fields_say s first g, ltb-false left (count + 2) m, commit_says y s k last w, refl))
      (λ w. rw (h, g, m, w) (lacks_none h, fields_say s first g, ltb-false left (count + 2) m, λ f. true≢false (sym (commit_asks y s k last f) ∙ w))))))

  pub answered : (r : Result Committed JournalEnd) → Reason r → read_record y s d c k p left ≡ r
  unfolding read_record Reason
  answered (Err NoDescriptor) h = rw (lacks_asks k left first h)
  answered (Err BadDescriptor) h =
      let g : has_bad_field s first ≡ true = cases (has_bad_field s first) (λ t. t) (λ f. absurd (h.1 (fields_say s first f))) in
      rw (none_lacks h.0, g)
  answered (Err TooFewBlocks) h = rw (none_lacks h.0, fields_ask s first h.1, lt-ltb left (count + 2) h.2)
  answered (Err NoCommit) h =
      let w : is_commit y s k last ≡ false = cases (is_commit y s k last) (λ t. absurd (h.3 (commit_says y s k last t))) (λ f. f) in
      rw (none_lacks h.0, fields_ask s first h.1, le-ltb left (count + 2) h.2, w)
  answered (Ok e) h =
      rw (none_lacks h.0, fields_ask s first h.1, le-ltb left (count + 2) h.2, commit_asks y s k last h.3) (ap Ok h.4)

-- ---- the end of a journal
-- records read one after another from a place, then an end: the answer where none is read
unfoldable pub ReadTo : CommitLayout → Shape → Bytes → ℕ → ℕ → ℕ → ℕ → List Committed → Result Committed JournalEnd → Type 0
ReadTo y s d c k p left [] r = (read_record y s d c k p left ≡ r) × (1 ≤ (record_answer r).0)
ReadTo y s d c k p left (e ∷ es) r =
    (read_record y s d c k p left ≡ Ok e) × ReadTo y s d c (k + 1) ((p + (e.count + 2)) % s.journal) (left - (e.count + 2)) es r

end_numbered : (x : JournalEnd) → (1 ≤ end_number x) × (end_number x ≤ 4)
unfolding end_number
end_numbered NoDescriptor = (omega arith, omega arith)
end_numbered BadDescriptor = (omega arith, omega arith)
end_numbered TooFewBlocks = (omega arith, omega arith)
end_numbered NoCommit = (omega arith, omega arith)

is_end : (r : Result Committed JournalEnd) → found_by r ≡ None → 1 ≤ (record_answer r).0
unfolding found_by record_answer
is_end (Ok e) h = cc
is_end (Err x) h = (end_numbered x).0

no_fifth : (r : Result Committed JournalEnd) → (record_answer r).0 ≤ 4
unfolding record_answer
no_fifth (Ok e) = omega arith
no_fifth (Err x) = (end_numbered x).1

not_record : (r : Result Committed JournalEnd) (e : Committed) → r ≡ Ok e → 1 ≤ (record_answer r).0 → ⊥
unfolding record_answer
not_record r e h l = let z : (record_answer r).0 ≡ 0 = ap (λ (x : Result Committed JournalEnd). (record_answer x).0) h in omega arith

module _ (y : CommitLayout) (s : Shape) (d : Bytes) (c : ℕ) where
  ended : (k p left : ℕ) → record_at y s d c k p left ≡ None → ReadTo y s d c k p left [] (read_record y s d c k p left)
  unfolding ReadTo
  ended k p left h = (refl, is_end (read_record y s d c k p left) (same_found y s d c k p left ∙ h))

  -- half as many as blocks are left reads all
  reads_to : (most k p left : ℕ) → left ≤ 2 * most + 1 → ReadTo y s d c k p left (records_from most y s d c k p left) (end_from most y s d c k p left)
  unfolding ReadTo
  reads_to zero k p left h =
      let miss = no_room y s d c k p left (omega arith) in
      rw (records_miss y s d c k p left 0 miss, end_here y s d c k p left 0 miss) (ended k p left miss)
  reads_to (suc most) k p left h =
      found_cases (record_at y s d c k p left)
      (λ miss. rw (records_miss y s d c k p left (suc most) miss, end_here y s d c k p left (suc most) miss) (ended k p left miss))
      (λ e hit.
      rw (records_hit y s d c k p left most e hit, end_on y s d c k p left most e hit) (
        whole_read y s d c k p left e hit,
        reads_to most (k + 1) ((p + (e.count + 2)) % s.journal) (left - (e.count + 2)) (omega (arith, (record_known y s d c k p left e hit).2)),
      ))

  -- what `journal` lists are the records before that end, and the end is that of the first position where none is read
  pub journal_ends : (t : Tail) → ReadTo y s d c t.number t.position s.journal (journal y s d c t s.journal) (journal_end y s d c t)
  unfolding journal journal_end
  journal_ends t = reads_to s.journal t.number t.position s.journal (omega arith)

  some_end : (k p left : ℕ) (es : List Committed) (r : Result Committed JournalEnd) → ReadTo y s d c k p left es r → 1 ≤ (record_answer r).0
  unfolding ReadTo
  some_end k p left [] r h = h.1
  some_end k p left (e ∷ es) r h = some_end (k + 1) ((p + (e.count + 2)) % s.journal) (left - (e.count + 2)) es r h.1

  -- it is one of the four
  pub end_known : (t : Tail) → (1 ≤ (record_answer (journal_end y s d c t)).0) × ((record_answer (journal_end y s d c t)).0 ≤ 4)
  end_known t = (some_end _ _ _ _ _ (journal_ends t), no_fifth (journal_end y s d c t))

  -- there is no other reading
  pub read_once : (k p left : ℕ) (es fs : List Committed) (q r : Result Committed JournalEnd) → ReadTo y s d c k p left es q → ReadTo y s d c k p left fs r → (es ≡ fs) × (q ≡ r)
  unfolding ReadTo
  read_once k p left [] [] q r a b = (refl, sym a.0 ∙ b.0)
  read_once k p left [] (f ∷ fs) q r a b = absurd (not_record q f (sym a.0 ∙ b.0) a.1)
  read_once k p left (e ∷ es) [] q r a b = absurd (not_record r e (sym b.0 ∙ a.0) b.1)
  read_once k p left (e ∷ es) (f ∷ fs) q r a b =
      let z : Ok e ≡ Ok f = sym a.0 ∙ b.0 in
      let y : e ≡ f = cc in
      let w = read_once (k + 1) ((p + (e.count + 2)) % s.journal) (left - (e.count + 2)) es fs q r a.1 (rw (← y) at b.1) in
      (ap₂ ◌∷◌ y w.0, w.1)
