-- A drive that loses some of its last stores leaves a disk each of whose blocks is that of the disk behind the barrier or
-- that of the disk with all stores. Where the first holds what the ledger without its last commits says, and the second what
-- the ledger says, any such mixture holds what the ledger without the lost commits says: what stands behind the barrier
-- stands on both; a commit that survives stands as on the second; and no block is a commit of an uncommitted number.
use Prim.Native.Nat.{ℕ, suc, ◌+◌, ◌-◌, ◌≤◌, ◌<◌}
use native.Mathlib.Omega.{arith}
use native.Mathlib.Decide.{dec_lt}
use mathlib.Core.Path.{◌≡◌, refl, sym, ap, ◌∙◌, subst}
use mathlib.Core.Logic.{◌⊎◌, inl, inr}
use mathlib.Core.Bool.{Bool, true, false, So, not}
use mathlib.Core.List.{List, [], ◌∷◌, ◌++◌, flat_map, append_assoc, append-nil, Memᴰ}
use lib.ListN.{length, take, get_or, length-append, get_or-append}
use lib.Seq.{take-suc, take_all}
use lib.Dec.{eqb}
use Rattle.model.specs.Lists.{below, any}
use Rattle.model.specs.Bytes.{Bytes, block_at}
use Rattle.model.specs.Shape.{journal_block}
use Rattle.model.specs.Card.{new_name}
use Rattle.model.specs.Layout.{has_head}
use Rattle.model.specs.Journal.{journal_at}
use Rattle.model.specs.declared.Name.{Name}
use Rattle.model.specs.declared.Tail.{Tail}
use Rattle.model.specs.declared.CommitLayout.{CommitLayout}
use Rattle.model.specs.declared.CommitLayout.TheVariants.{Numbers}
use Rattle.model.proofs.Lists.{cases, and_both, mem_any, below_mem, flat_map_append, flat_map_below}
use Rattle.model.proofs.Select.{mem_select}
use Rattle.crash.specs.Book.{Stage, committed, is_closed, is_committed, is_retired, stage_count, Book, required_in, kept}
use Rattle.crash.specs.Ledger.{Ledger, valid_in, blocks_in, record_blocks, record_of}
use Rattle.crash.specs.Claims.{IsBytes}
use Rattle.crash.proofs.Books.Tests.{clash, any_in, in_any, name_equality, block_equality}
use Rattle.crash.proofs.Books.BookEntries.{by_stage, next_name}
use Rattle.crash.proofs.Books.Largest.{member_of, stage_of, requires, valid_is_kept, kept_more}
use Rattle.crash.proofs.Blocks.Invariant.{Inv, homed}
use Rattle.crash.proofs.Disk.Relation.{WellFormed, contents, JournalStands, DiskStands}
use Rattle.crash.proofs.Disk.RecordFormat.{length_record}
use Rattle.crash.proofs.Commands.CardFrames.{record_same}
use Rattle.crash.proofs.Runs.UpSteps.{retired_below}
use Rattle.drive.specs.LostCommits.{stage_without, book_without, ledger_without}
use Rattle.drive.proofs.Lost.Without.{without_records, Last, without_running, stage_retired, well_formed_without, low_without, mid_without, lost_from, inv_without}

abbrev pub CommittedKnown : Book → Type 0
CommittedKnown k = (t : Name) → So (is_committed (stage_of k t)) → Memᴰ t k.opened

pub known_formed : {l : Ledger} → WellFormed l → CommittedKnown l.book
known_formed f t h = f.known t (λ e. clash h (ap is_committed e))

-- core c's last committed transaction
abbrev pub last_name : Ledger → ℕ → Name
last_name l c = new_name c (l.book.uncommitted c - 1)

record_without : (l : Ledger) (x : Name → Bool) (t : Name) → record_of (ledger_without x l) t ≡ record_of l t
unfolding book_without
record_without l x t = record_same l (ledger_without x l) t refl refl refl refl

-- ---- what a journal holds without the lost commits
module _ (l : Ledger) (c : ℕ) where
  abbrev pub whole : ℕ → List Bytes
  whole n = flat_map (λ (i : ℕ). record_of l (new_name c (l.book.oldest c + i))) (below n)

  -- the last one's record without its commit
  abbrev pub uncommitted_part : List Bytes
  uncommitted_part = take (length (l.book.entry (last_name l c)).blocks + 1) (record_of l (last_name l c))

  abbrev pub commit_block : Bytes
  commit_block = get_or (record_of l (last_name l c)) (length (l.book.entry (last_name l c)).blocks + 1) []

  -- what is stored of the closed one
  abbrev pub stored_part : List Bytes
  stored_part = take (stage_count (stage_of l.book (new_name c (l.book.uncommitted c)))) (record_of l (new_name c (l.book.uncommitted c)))

  pub contents_is : contents l c ≡ whole (l.book.uncommitted c - l.book.oldest c) ++ stored_part
  unfolding contents
  contents_is = refl

module _ {l : Ledger} (f : WellFormed l) (c : ℕ) (in_range_lem : c < l.shape.cores) (x : Name → Bool) where
  none_counted : stage_count (stage_without (x (new_name c (l.book.uncommitted c))) (length (l.book.entry (new_name c (l.book.uncommitted c))).blocks) (stage_of l.book (new_name c (l.book.uncommitted c)))) ≡ 0
  none_counted =
      let k = l.book in
      let r = f.ranks c in_range_lem in
      elim (dec_lt (k.uncommitted c) (k.next c)) [
        | yes h ↦ rw (r.waiting (k.uncommitted c) (omega arith) h).1 refl
        | no h ↦ (let e : k.uncommitted c ≡ k.next c = omega (arith, r.mid) in
            elim r.current [ inl a ↦ rw (e, a) refl | inr a ↦ rw (e, a) refl ])
      ]

  pub contents_unlost : x (last_name l c) ≡ false → contents (ledger_without x l) c ≡ whole l c (l.book.uncommitted c - l.book.oldest c)
  unfolding contents book_without
  contents_unlost h =
      rw (h, none_counted)
      (append-nil _
      ∙ flat_map_below (λ (i : ℕ). record_of (ledger_without x l) (new_name c (l.book.oldest c + i))) (λ (i : ℕ). record_of l (new_name c (l.book.oldest c + i)))
      (l.book.uncommitted c - l.book.oldest c) (λ i g. unfold book_without in record_without l x (new_name c (l.book.oldest c + i))))

  pub contents_lost : stage_of l.book (last_name l c) ≡ committed 0 → x (last_name l c) ≡ true
      → contents (ledger_without x l) c ≡ whole l c (l.book.uncommitted c - 1 - l.book.oldest c) ++ uncommitted_part l c
  unfolding contents book_without
  contents_lost z h =
      let e : record_of (ledger_without x l) (last_name l c) ≡ record_of l (last_name l c) = record_without l x (last_name l c) in
      rw (h, z, h, e)
      (ap (λ (a : List Bytes). a ++ uncommitted_part l c)
      (flat_map_below (λ (i : ℕ). record_of (ledger_without x l) (new_name c (l.book.oldest c + i))) (λ (i : ℕ). record_of l (new_name c (l.book.oldest c + i)))
      (l.book.uncommitted c - 1 - l.book.oldest c) (λ i g. unfold book_without in record_without l x (new_name c (l.book.oldest c + i)))))

  -- the record before its commit, and the commit
  whole_last : stage_of l.book (last_name l c) ≡ committed 0 → l.book.oldest c < l.book.uncommitted c
      → whole l c (l.book.uncommitted c - l.book.oldest c)
      ≡ (whole l c (l.book.uncommitted c - 1 - l.book.oldest c) ++ uncommitted_part l c) ++ (commit_block l c ∷ [])
  unfolding below flat_map
  whole_last z h =
      let o = l.book.oldest c in
      let n = l.book.uncommitted c - 1 - o in
      let t = last_name l c in
      let g : ℕ → List Bytes = λ i. record_of l (new_name c (o + i)) in
      let e : l.book.uncommitted c - o ≡ suc n = omega arith in
      let a : o + n ≡ l.book.uncommitted c - 1 = omega arith in
      let m = length (l.book.entry t).blocks in
      let size : length (record_of l t) ≡ m + 2 = length_record f t (ap is_closed z) in
      let all : uncommitted_part l c ++ (commit_block l c ∷ []) ≡ record_of l t =
      sym (take-suc (record_of l t) (m + 1) [] (omega arith)) ∙ take_all (suc (m + 1)) (record_of l t) (omega arith) in
      rw e
      (flat_map_append g (below n) (n ∷ [])
      ∙ ap (λ (b : List Bytes). flat_map g (below n) ++ b) (append-nil (g n) ∙ ap (λ (i : ℕ). record_of l (new_name c i)) a ∙ sym all)
      ∙ sym (append_assoc (flat_map g (below n)) (uncommitted_part l c) (commit_block l c ∷ [])))

-- behind the barrier stands all but the commit
pub whole_held : {l : Ledger} (f : WellFormed l) (c : ℕ) (in_range_lem : c < l.shape.cores) (since : Name → Bool) (last : Last l since) → So (since (last_name l c))
    → whole l c (l.book.uncommitted c - l.book.oldest c) ≡ contents (ledger_without since l) c ++ (commit_block l c ∷ [])
whole_held {l} f c in_range_lem since last pending =
    let z = last (last_name l c) pending in
    let some : l.book.oldest c < l.book.uncommitted c = omega (arith, z.1, low_without f since last c in_range_lem, (rw pending at (low_without f since last c in_range_lem))) in
    whole_last f c in_range_lem since z.0 some ∙ ap (λ (a : List Bytes). a ++ (commit_block l c ∷ [])) (sym (contents_lost f c in_range_lem since z.0 pending))

-- ---- a mixture of two disks
-- where core c's commit since the barrier stands: right after what the disk behind the barrier holds
abbrev pub commit_place : Ledger → (ℕ → Tail) → (Name → Bool) → ℕ → ℕ
commit_place l tail_at since c = journal_block l.shape c ((tail_at c).position + length (contents (ledger_without since l) c))

-- `since`: the transactions whose commit was stored since the barrier; `lost`: those of them whose commit is lost
pub record Mixed (l : Ledger) (tail_at : ℕ → Tail) (since lost : Name → Bool) (behind now mixed : Bytes) : Type 0 where
  pub size : length mixed ≡ 32896
  pub bytes : IsBytes mixed
  pub each : (k : ℕ) → (block_at mixed k ≡ block_at now k) ⊎ (block_at mixed k ≡ block_at behind k)
  pub stays : (c : ℕ) → c < l.shape.cores → So (since (last_name l c)) → lost (last_name l c) ≡ false
      → block_at mixed (commit_place l tail_at since c) ≡ block_at now (commit_place l tail_at since c)
  pub goes : (c : ℕ) → c < l.shape.cores → So (lost (last_name l c)) → block_at mixed (commit_place l tail_at since c) ≡ block_at behind (commit_place l tail_at since c)

-- a commit since the barrier is the only one of its number
abbrev pub Single : Ledger → (ℕ → Tail) → (Name → Bool) → Bytes → Type 0
Single l tail_at since d =
    (c q : ℕ) → c < l.shape.cores → So (since (last_name l c)) → has_head 2 (l.book.uncommitted c - 1) (journal_at l.shape d c q) ≡ true
    → journal_block l.shape c q ≡ commit_place l tail_at since c

pub prefix_stands : (s : ℕ → Bytes) (p : ℕ) (xs ys zs : List Bytes) → zs ≡ xs ++ ys → ((q : ℕ) → q < length zs → s (p + q) ≡ get_or zs q [])
    → (q : ℕ) → q < length xs → s (p + q) ≡ get_or xs q []
prefix_stands s p xs ys zs e z q h =
    z q (rw e (omega (arith, length-append xs ys))) ∙ ap (λ (l : List Bytes). get_or l q []) e ∙ get_or-append xs ys [] q h

module _ {y : CommitLayout} {l : Ledger} (f : WellFormed l) {tail_at : ℕ → Tail} (since lost : Name → Bool) (last : Last l since) (sub : (t : Name) → So (lost t) → So (since t))
    {behind now mixed : Bytes} (z₀ : DiskStands y (ledger_without since l) behind tail_at) (z : DiskStands y l now tail_at) (single : Single l tail_at since now)
    (x : Mixed l tail_at since lost behind now mixed) where
  last_lost : Last l lost
  last_lost t h = last t (sub t h)

  module _ (c : ℕ) (in_range_lem : c < l.shape.cores) where
    abbrev at : ℕ → Bytes → Bytes
    at q d = journal_at l.shape d c ((tail_at c).position + q)

    -- what stands on both disks stands on the mixture
    both : (xs : List Bytes) → ((q : ℕ) → q < length xs → at q now ≡ get_or xs q []) → ((q : ℕ) → q < length xs → at q behind ≡ get_or xs q [])
        → (q : ℕ) → q < length xs → at q mixed ≡ get_or xs q []
    unfolding journal_at
    both xs a b q h = elim (x.each (journal_block l.shape c ((tail_at c).position + q))) [ inl e ↦ e ∙ a q h | inr e ↦ e ∙ b q h ]

    abbrev held₀ : List Bytes
    held₀ = contents (ledger_without since l) c

    now_whole : (q : ℕ) → q < length (whole l c (l.book.uncommitted c - l.book.oldest c)) → at q now ≡ get_or (whole l c (l.book.uncommitted c - l.book.oldest c)) q []
    now_whole =
        prefix_stands (λ (q : ℕ). journal_at l.shape now c q) (tail_at c).position (whole l c (l.book.uncommitted c - l.book.oldest c)) (stored_part l c) (contents l c) (contents_is l c) (z.journals c in_range_lem).stands

    module _ (pending : So (since (last_name l c))) where
      stage₀ : stage_of l.book (last_name l c) ≡ committed 0
      stage₀ = (last (last_name l c) pending).0

      whole_is : whole l c (l.book.uncommitted c - l.book.oldest c) ≡ held₀ ++ (commit_block l c ∷ [])
      whole_is = whole_held f c in_range_lem since last pending

      -- on both disks stands what is behind the barrier
      held_both : (q : ℕ) → q < length held₀ → at q mixed ≡ get_or held₀ q []
      held_both =
          both held₀ (prefix_stands (λ (q : ℕ). journal_at l.shape now c q) (tail_at c).position held₀ (commit_block l c ∷ []) _ whole_is now_whole) (z₀.journals c in_range_lem).stands

      -- a commit that survives stands after it
      with_commit : lost (last_name l c) ≡ false → (q : ℕ) → q < length (held₀ ++ (commit_block l c ∷ [])) → at q mixed ≡ get_or (held₀ ++ (commit_block l c ∷ [])) q []
      unfolding journal_at
      with_commit h q b =
          elim (dec_lt q (length held₀)) [
            | yes lt ↦ (unfold journal_at in held_both q lt) ∙ sym (get_or-append held₀ (commit_block l c ∷ []) [] q lt)
            | no ge ↦ (let e : length held₀ ≡ q = omega (arith, length-append held₀ (commit_block l c ∷ [])) in
                subst (λ (i : ℕ). block_at mixed (journal_block l.shape c ((tail_at c).position + i)) ≡ get_or (held₀ ++ (commit_block l c ∷ [])) i []) e
                (x.stays c in_range_lem pending h
                ∙ (unfold journal_at in now_whole (length held₀) (rw whole_is (omega (arith, length-append held₀ (commit_block l c ∷ [])))))
                ∙ ap (λ (a : List Bytes). get_or a (length held₀) []) whole_is))
          ]

    stands_mixed : (q : ℕ) → q < length (contents (ledger_without lost l) c) → at q mixed ≡ get_or (contents (ledger_without lost l) c) q []
    stands_mixed =
        cases (lost (last_name l c))
        (λ h.
        let p : So (since (last_name l c)) = sub (last_name l c) h in
        let e : contents (ledger_without lost l) c ≡ held₀ = contents_lost f c in_range_lem lost (stage₀ p) h ∙ sym (contents_lost f c in_range_lem since (stage₀ p) p) in
        rw e (held_both p))
        (λ h.
        let e : contents (ledger_without lost l) c ≡ whole l c (l.book.uncommitted c - l.book.oldest c) = contents_unlost f c in_range_lem lost h in
        cases (since (last_name l c))
        (λ p. rw (e, whole_is p) (with_commit p h))
        (λ p.
        let e₀ : held₀ ≡ whole l c (l.book.uncommitted c - l.book.oldest c) = contents_unlost f c in_range_lem since p in
        rw e (both (whole l c (l.book.uncommitted c - l.book.oldest c)) now_whole (rw e₀ at (z₀.journals c in_range_lem).stands))))

    -- no commit of an uncommitted number
    clear_mixed : (i q : ℕ) → (ledger_without lost l).book.uncommitted c ≤ i → has_head 2 i (journal_at l.shape mixed c q) ≡ false
    unfolding journal_at book_without
    clear_mixed i q h =
        let s = l.shape in
        let u = l.book.uncommitted c in
        let j = journal_block s c q in
        let low : (ledger_without since l).book.uncommitted c ≤ i =
        cases (lost (last_name l c))
        (λ y. let p : since (last_name l c) ≡ true = sub (last_name l c) y in rw p (rw y at h))
        (λ y. let n : u ≤ i = rw y at h in cases (since (last_name l c)) (λ p. rw p (omega arith)) (λ p. rw p n)) in
        let gone : has_head 2 i (block_at behind j) ≡ false = unfold journal_at book_without in (z₀.journals c in_range_lem).clear i q low in
        elim (x.each j) [
          | inr e ↦ ap (has_head 2 i) e ∙ gone
          | inl e ↦ elim (dec_lt i u) [
            | no ge ↦ ap (has_head 2 i) e ∙ (unfold journal_at in (z.journals c in_range_lem).clear i q (omega arith))
            | yes lt ↦ (let y : lost (last_name l c) ≡ true = lost_from lost l.book c (u - 1) (unfold book_without in omega arith) (omega arith) in
                let n : u - 1 ≡ i = (let m : u - 1 ≤ i = rw y at h in omega arith) in
                cases (has_head 2 i (block_at now j))
                (λ a.
                let place : j ≡ commit_place l tail_at since c = unfold journal_at book_without in single c q in_range_lem (sub (last_name l c) y) (rw n a) in
                ap (has_head 2 i) (ap (block_at mixed) place ∙ (unfold book_without in x.goes c in_range_lem y) ∙ ap (block_at behind) (sym place)) ∙ gone)
                (λ a. ap (has_head 2 i) e ∙ a))
          ]
        ]

    journal_mixed : JournalStands (ledger_without lost l) mixed c (tail_at c)
    unfolding book_without
    journal_mixed =
        let j = z.journals c in_range_lem in
        let k = l.book in
        let t = next_name c k in
        let total : record_blocks (book_without lost k) c (k.oldest c) (k.next c - k.oldest c) ≡ record_blocks k c (k.oldest c) (k.next c - k.oldest c) = without_records lost k c (k.oldest c) (k.next c - k.oldest c) in
        record {
          number = j.number;
          position = j.position;
          stands = stands_mixed;
          clear = clear_mixed;
          room = rw total j.room;
          reserved = λ h. rw total (j.reserved (sym (without_running (lost t) (length (k.entry t).blocks) (stage_of k t)) ∙ h));
        }

  master_mixed : block_at mixed 0 ≡ block_at now 0
  master_mixed = elim (x.each 0) [ inl e ↦ e | inr e ↦ e ∙ z₀.master ∙ sym z.master ]

  numbered_mixed : (c : ℕ) → c < l.shape.cores → l.book.oldest c < (book_without lost l.book).uncommitted c → y ≡ Numbers
  unfolding book_without
  numbered_mixed c h g = z.numbered c h (let n : (book_without lost l.book).uncommitted c ≤ l.book.uncommitted c = unfold book_without in mid_without lost l.book c in omega arith)

  -- The mixture holds what the ledger without the lost commits says.
  pub disk_mixed : DiskStands y (ledger_without lost l) mixed tail_at
  unfolding book_without
  disk_mixed = record { size = x.size; bytes = x.bytes; master = master_mixed ∙ z.master; numbered = numbered_mixed; journals = journal_mixed }

-- ---- what a cut leaves
fewer_committed : (x y : Bool) (n : ℕ) (g : Stage) → (So x → So y) → So (is_committed (stage_without y n g)) → So (is_committed (stage_without x n g))
fewer_committed x y n g sub =
    by_stage (λ g. So (is_committed (stage_without y n g)) → So (is_committed (stage_without x n g))) (λ h. h) (λ h. h) (λ m h. h)
    (λ m h. cases x (λ a. clash (rw (sub a) at h) refl) (λ a. rw a refl)) (λ h. h) g

-- a cut that loses fewer commits keeps more
module _ {home : ℕ → Bytes} {l : Ledger} (v : Inv home l) (f : WellFormed l) (since lost : Name → Bool) (last : Last l since) (sub : (t : Name) → So (lost t) → So (since t))
    -- whoever stored home or retired is kept by what is behind the barrier
    (safe : (t : Name) → (So (is_retired (stage_of l.book t)) ⊎ ((b : ℕ) × So (homed l b t))) → So (member_of (kept (book_without since l.book)) t)) where
  last_of : Last l lost
  last_of t h = last t (sub t h)

  formed_since : WellFormed (ledger_without since l)
  formed_since = well_formed_without f since last

  formed_lost : WellFormed (ledger_without lost l)
  formed_lost = well_formed_without f lost last_of

  known_since : CommittedKnown (book_without since l.book)
  known_since = known_formed formed_since

  known_lost : CommittedKnown (book_without lost l.book)
  known_lost = known_formed formed_lost

  more_committed : (t : Name) → So (is_committed (stage_of (book_without since l.book) t)) → So (is_committed (stage_of (book_without lost l.book) t))
  unfolding book_without
  more_committed t h = fewer_committed (lost t) (since t) (length (l.book.entry t).blocks) (stage_of l.book t) (sub t) h

  same_required : (t u : Name) → So (is_committed (stage_of (book_without since l.book) t)) → So (requires (book_without lost l.book) t u) → So (requires (book_without since l.book) t u)
  unfolding book_without required_in
  same_required t u h n = n

  more_kept : (t : Name) → So (member_of (kept (book_without since l.book)) t) → So (member_of (kept (book_without lost l.book)) t)
  more_kept = kept_more (book_without since l.book) (book_without lost l.book) known_since known_lost more_committed same_required

  pub safe_lost : (t : Name) → (So (is_retired (stage_of l.book t)) ⊎ ((b : ℕ) × So (homed l b t))) → So (member_of (kept (book_without lost l.book)) t)
  safe_lost t h = more_kept t (safe t h)

  pub inv_lost : Inv home (ledger_without lost l)
  inv_lost = inv_without v f lost last_of safe_lost

  -- a block that a transaction took which is kept behind the barrier and not retired is held without the lost commits
  pub held_lost : (t : Name) → is_retired (stage_of l.book t) ≡ false → So (member_of (kept (book_without since l.book)) t) → (b : ℕ) → b < l.shape.blocks
      → any (eqb b) (blocks_in l.shape.blocks (book_without lost l.book)) ≡ false → any (eqb b) (l.book.entry t).blocks ≡ false
  unfolding blocks_in book_without
  held_lost t r k b h n =
      cases (any (eqb b) (l.book.entry t).blocks)
      (λ y. clash (in_any block_equality (mem_select _ (below l.shape.blocks) b (below_mem l.shape.blocks b h) (mem_any (λ (u : Name). any (eqb b) ((book_without lost l.book).entry u).blocks) (valid_t) y))) n)
      (λ y. y)
    where
      valid_t : Memᴰ t (valid_in (book_without lost l.book))
      valid_t =
          any_in name_equality t (valid_in (book_without lost l.book))
          (valid_is_kept (book_without lost l.book) known_lost (retired_below (ledger_without lost l) formed_lost) inv_lost.retired_kept t
          ∙ and_both (more_kept t k) (ap not (stage_retired lost l.book t ∙ r)))
