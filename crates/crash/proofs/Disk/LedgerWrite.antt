-- WRITE keeps the ledger in order: it opens the number that is next, and the rules change no stage. The writer takes a
-- block only where it does not hold it, so that its blocks stay distinct; only the writer and a running holder get a
-- name, and the refusals 25 and 27 keep blocks and numbers within the limits.
use Prim.Native.Nat.{ℕ, ◌≤◌, ◌<◌}
use native.Mathlib.Omega.{arith}
use native.Mathlib.Decide.{dec_lt}
use mathlib.Core.Path.{◌≡◌, refl, sym, ap, ◌∙◌, subst}
use mathlib.Core.Logic.{◌⊎◌, inl, inr, ◌≢◌}
use mathlib.Core.Bool.{true, false, not, ◌&&◌}
use mathlib.Core.List.{List, [], ◌∷◌, ◌++◌, Memᴰ}
use mathlib.Core.Option.{some}
use lib.ListN.{length, get_or, length-append, get_or-append}
use lib.Seq.{get_or_at}
use lib.Dec.{ltb}
use borrow.Author.Tests.{ltb-false}
use Rattle.model.specs.Bytes.{Bytes}
use Rattle.model.specs.Card.{new_name}
use Rattle.model.specs.Limits.{max_number}
use Rattle.model.specs.declared.Name.{Name}
use Rattle.model.proofs.Lists.{cases, get_or_mem}
use Rattle.crash.specs.Book.{absent, running, is_running, is_closed, Entry, Book, change, staged, begin, book_holder, Meeting, own, meets, ruled, note, write_book}
use Rattle.crash.specs.Ledger.{Ledger, with_book}
use Rattle.crash.specs.Claims.{IsBytes}
use Rattle.crash.proofs.Books.Tests.{clash, impossible}
use Rattle.crash.proofs.Books.BookEntries.{next_name, same_or_not, change_at, change_other, change_by, takes, met_holder, meets_met, meets_own, ruled_other, ruled_stage, ruled_blocks, ruled_blocks_other, ruled_names}
use Rattle.crash.proofs.Books.BookSteps.{begun, begun_by, begun_fields, begun_same, begun_other, begun_running, begun_holder}
use Rattle.crash.proofs.Disk.Relation.{Limits, WriteFits, WellFormed}
use Rattle.crash.proofs.Disk.LedgerStages.{running_present}
use Rattle.crash.proofs.Disk.LedgerFresh.{same_frozen}
use Rattle.crash.proofs.Disk.LedgerRanks.{ranks_kept, sum_same}
use Rattle.crash.proofs.Disk.LedgerSteps.{limits_same}

-- ---- one block more
snoc_distinct : (xs : List ℕ) (b : ℕ) → ((i j : ℕ) → i < length xs → j < length xs → get_or xs i 0 ≡ get_or xs j 0 → i ≡ j) → (Memᴰ b xs → ⊥)
    → (i j : ℕ) → i < length (xs ++ (b ∷ [])) → j < length (xs ++ (b ∷ [])) → get_or (xs ++ (b ∷ [])) i 0 ≡ get_or (xs ++ (b ∷ [])) j 0 → i ≡ j
snoc_distinct xs b h out i j hi hj e =
    let n = length-append xs (b ∷ []) in
    let front : (x : ℕ) → x < length xs → get_or (xs ++ (b ∷ [])) x 0 ≡ get_or xs x 0 = λ x lt. get_or-append xs (b ∷ []) 0 x lt in
    let last : (x : ℕ) → length xs ≡ x → get_or (xs ++ (b ∷ [])) x 0 ≡ b = λ x q. get_or_at xs b [] 0 x q in
    let never : (x : ℕ) → x < length xs → get_or xs x 0 ≡ b → ⊥ = λ x lt q. out (subst (λ (y : ℕ). Memᴰ y xs) q (get_or_mem xs x 0 lt)) in
    elim (dec_lt i (length xs)) [
      | yes li ↦ elim (dec_lt j (length xs)) [
        | yes lj ↦ h i j li lj (sym (front i li) ∙ e ∙ front j lj)
        | no gj ↦ absurd (never i li (sym (front i li) ∙ e ∙ last j (omega arith)))
      ]
      | no gi ↦ elim (dec_lt j (length xs)) [
        | yes lj ↦ absurd (never j lj (sym (front j lj) ∙ sym e ∙ last i (omega arith)))
        | no gj ↦ omega arith
      ]
    ]

-- ---- the write noted
module _ (l : Ledger) (f : WellFormed l) (t : Name) (last : t.number ≡ l.book.next t.core) (b o : ℕ) (v : Bytes) (run : (l.book.entry t).stage ≡ running)
    (fits : WriteFits l.shape (record { writer = t; holder = t; block = b; offset = o; bytes = v }))
    (holds : (u : Name) (x : ℕ) → (l.book.entry u).stage ≡ running → Memᴰ x (l.book.entry u).blocks → book_holder l.book x l.book.writes ≡ some u)
    (opens : (u : Name) (x : ℕ) → book_holder l.book x l.book.writes ≡ some u → (l.book.entry u).stage ≢ absent) where
  abbrev m : Meeting
  m = meets l.book t (book_holder l.book b l.book.writes)

  abbrev after : Name → Entry
  after = ruled m t b l.book.entry

  after_stage : (u : Name) → (after u).stage ≡ (l.book.entry u).stage
  after_stage = ruled_stage m t b l.book.entry

  met_open : (u : Name) → met_holder m ≡ some u → (l.book.entry u).stage ≢ absent
  met_open u e = opens u b (meets_met l.book t (book_holder l.book b l.book.writes) u e).0

  -- one that does not run is not the writer, and one that is not open is not changed
  not_writer : (u : Name) → (l.book.entry u).stage ≢ running → u ≢ t
  not_writer u h e = h (rw e run)

  absent_same : (u : Name) → (l.book.entry u).stage ≡ absent → after u ≡ l.book.entry u
  absent_same u h =
      ruled_other m t b l.book.entry u
      (not_writer u (λ e. running_present _ e h))
      (λ e. met_open u (ap met_holder e) h)

  not_taken : takes m ≡ true → Memᴰ b (l.book.entry t).blocks → ⊥
  not_taken h p =
      let e : m ≡ own = ap (meets l.book t) (holds t b run p) ∙ meets_own l.book t in
      let q : takes m ≡ false = ap takes e in
      impossible cc

  module _ (few : length (after t).blocks ≤ 8) where
    writer_blocks : (P : List ℕ → Type 0) → (takes m ≡ true → P ((l.book.entry t).blocks ++ (b ∷ []))) → P (l.book.entry t).blocks → P (after t).blocks
    writer_blocks P p q = rw (ruled_blocks m t b l.book.entry) (cases (takes m) (λ h. rw h (p h)) (λ h. rw h q))

    writer_limits : Limits l.shape t (after t)
    writer_limits =
        let z = f.limits t (running_present _ run) in
        record {
          core = z.core;
          low = z.low;
          high = z.high;
          few = few;
          blocks = writer_blocks (λ bs. (x : ℕ) → Memᴰ x bs → x < l.shape.blocks)
              (λ h x p. elim (mathlib.Core.List.Memᴰ.append_cases (l.book.entry t).blocks p)
              [ inl q ↦ z.blocks x q | inr q ↦ (let e = mathlib.Core.List.Memᴰ.eq_of_singleton q in rw e fits.block) ])
              z.blocks;
          distinct = writer_blocks (λ bs. (i j : ℕ) → i < length bs → j < length bs → get_or bs i 0 ≡ get_or bs j 0 → i ≡ j)
              (λ h. snoc_distinct (l.book.entry t).blocks b z.distinct (not_taken h))
              z.distinct;
        }

    other_limits : (u : Name) → u ≢ t → (l.book.entry u).stage ≢ absent → Limits l.shape u (after u)
    other_limits u ne h =
        let z = f.limits u h in
        let e = ruled_blocks_other m t b l.book.entry u ne in
        record {
          core = z.core;
          low = z.low;
          high = z.high;
          few = rw e z.few;
          blocks = rw e z.blocks;
          distinct = rw e z.distinct;
        }

    well_formed_note : WellFormed (with_book l (note t b o v l.book))
    unfolding note
    well_formed_note =
        record {
          sequence = f.sequence;
          range = f.range;
          ranks = λ a h.
              let r = f.ranks a h in
              ranks_kept l.book (note t b o v l.book) a r refl refl refl refl
              (λ i ne. after_stage (new_name a i))
              (λ i lt. ap length (ruled_blocks_other m t b l.book.entry (new_name a i)
              (λ e. let p : i ≡ t.number = ap (λ (n : Name). n.number) e in
              let q : l.book.next a ≡ l.book.next t.core = ap (λ (n : Name). l.book.next n.core) e in omega arith)))
              (rw (after_stage (next_name a l.book)) r.current);
          far = λ u h. rw (after_stage u) (f.far u h);
          limits = λ u h. same_or_not u t (λ e. rw e writer_limits) (λ ne. other_limits u ne (rw (after_stage u) at h));
          unopened = λ u h. let g : (l.book.entry u).stage ≡ absent = rw (after_stage u) at h in rw (absent_same u g) (f.unopened u g);
          named = λ u x p. rw (after_stage x) (elim (ruled_names m t b l.book.entry u x p) [
            | inl q ↦ f.named u x q
            | inr s ↦ elim s [ inl e ↦ rw e (running_present _ run) | inr e ↦ met_open x e ]
          ]);
          frozen = λ u h.
              let g : is_closed (l.book.entry u).stage ≡ true = rw (after_stage u) at h in
              same_frozen l (with_book l (note t b o v l.book)) u refl refl refl
              (ruled_blocks_other m t b l.book.entry u (not_writer u (λ e. clash g (ap is_closed e)))) (f.frozen u g);
          stamps = λ u x hu hx. f.stamps u x (rw (after_stage u) at hu) (rw (after_stage x) at hx);
          ascending = λ a i j lt hi hj. f.ascending a i j lt (rw (after_stage (new_name a i)) at hi) (rw (after_stage (new_name a j)) at hj);
          closes = (let e = sum_same l.book (note t b o v l.book) (λ a. refl) l.shape.cores in let h = f.closes in omega arith);
          opened = λ u p. rw (after_stage u) (f.opened u p);
          known = λ u h. f.known u (rw (after_stage u) at h);
          writes = λ w p. elim (mathlib.Core.List.Memᴰ.cases_cons p)
              [ inl e ↦ rw e (record { block = fits.block; offset = fits.offset; size = fits.size; bytes = fits.bytes }) | inr q ↦ f.writes w q ];
          saved = f.saved;
        }

-- ---- WRITE
module _ (l : Ledger) (f : WellFormed l) (c : ℕ) (hc : c < l.shape.cores) where
  abbrev k : Book
  k = l.book

  abbrev w : Name
  w = next_name c k

  -- the transaction opened
  module _ (new : (k.entry w).stage ≡ absent) (room : k.next c ≤ 4000000000) where
    abbrev opening : Name → Entry
    opening = change w (staged running) k.entry

    opening_other : (u : Name) → u ≢ w → opening u ≡ k.entry u
    opening_other = change_other w (staged running) k.entry

    opening_blocks : (u : Name) → (opening u).blocks ≡ (k.entry u).blocks
    opening_blocks = change_by w (staged running) k.entry (λ e. e.blocks) refl

    opening_names : (u : Name) → (opening u).names ≡ (k.entry u).names
    opening_names = change_by w (staged running) k.entry (λ e. e.names) refl

    opening_closed : (u : Name) → is_closed (opening u).stage ≡ is_closed (k.entry u).stage
    opening_closed = change_by w (staged running) k.entry (λ e. is_closed e.stage) (sym (ap is_closed new))

    opening_at : (u : Name) → u ≡ w → (opening u).stage ≡ running
    opening_at u e = rw (e, change_at w (staged running) k.entry)

    opens_after : (u : Name) → (k.entry u).stage ≢ absent → (opening u).stage ≢ absent
    opens_after u h = same_or_not u w (λ e. running_present _ (opening_at u e)) (λ ne. rw (opening_other u ne) h)

    well_formed_begin : WellFormed (with_book l (begin w k))
    unfolding begin
    well_formed_begin =
        record {
          sequence = f.sequence;
          range = f.range;
          ranks = λ a h.
              let r = f.ranks a h in
              let other : (i : ℕ) → new_name a i ≢ w → (opening (new_name a i)).stage ≡ (k.entry (new_name a i)).stage = λ i ne. ap (λ e. e.stage) (opening_other (new_name a i) ne) in
              ranks_kept k (begin w k) a r refl refl refl refl
              (λ i ne. other i (λ e. ne (ap (λ (n : Name). n.number) e ∙ sym (ap (λ (n : Name). k.next n.core) e))))
              (λ i lt. ap length (opening_blocks (new_name a i)))
              (same_or_not (next_name a k) w (λ e. inr (opening_at (next_name a k) e)) (λ ne. rw (opening_other (next_name a k) ne) r.current));
          far = λ u h.
              same_or_not u w
              (λ e. absurd (let p : u.core ≡ c = ap (λ (n : Name). n.core) e in omega arith))
              (λ ne. rw (opening_other u ne) (f.far u h));
          limits = λ u h.
              same_or_not u w
              (λ e. let z = f.unopened w new in
              let r = f.ranks c hc in
              let none_taken : (opening w).blocks ≡ [] = opening_blocks w ∙ z.0 in
              rw e (record {
                core = hc;
                low = omega arith;
                high = room;
                few = rw none_taken (omega arith);
                blocks = rw none_taken (λ b m. absurd (mathlib.Core.List.Memᴰ.not-nil m));
                distinct = rw none_taken (λ i j p q w. absurd (omega arith));
              }))
              (λ ne. limits_same l.shape u (k.entry u) (opening u) (opening_blocks u) (f.limits u (rw (opening_other u ne) at h)));
          unopened = λ u h.
              same_or_not u w
              (λ e. absurd (running_present _ (opening_at u e) h))
              (λ ne. rw (opening_other u ne) (f.unopened u (rw (opening_other u ne) at h)));
          named = λ u x m. opens_after x (f.named u x (rw (opening_names u) at m));
          frozen = λ u h. same_frozen l (with_book l (begin w k)) u refl refl refl (opening_blocks u) (f.frozen u (sym (opening_closed u) ∙ h));
          stamps = λ u x hu hx. f.stamps u x (sym (opening_closed u) ∙ hu) (sym (opening_closed x) ∙ hx);
          ascending = λ a i j lt hi hj. f.ascending a i j lt (sym (opening_closed (new_name a i)) ∙ hi) (sym (opening_closed (new_name a j)) ∙ hj);
          closes = (let e = sum_same k (begin w k) (λ a. refl) l.shape.cores in let h = f.closes in omega arith);
          opened = λ u m. elim (mathlib.Core.List.Memᴰ.cases_cons m) [ inl e ↦ running_present _ (opening_at u e) | inr p ↦ opens_after u (f.opened u p) ];
          known = λ u h.
              same_or_not u w (λ e. mathlib.Core.List.Memᴰ.head e) (λ ne. mathlib.Core.List.Memᴰ.tail (f.known u (rw (opening_other u ne) at h)));
          writes = f.writes;
          saved = f.saved;
        }

  -- The holders are as layer A has them: whoever runs and took a block holds it, and a holder is open.
  module _ (b o : ℕ) (v : Bytes) (hb : b < l.shape.blocks) (ho : o ≤ 124) (size : length v ≡ 4) (is_bytes : IsBytes v)
      (holds : (u : Name) (x : ℕ) → (k.entry u).stage ≡ running → Memᴰ x (k.entry u).blocks → book_holder k x k.writes ≡ some u)
      (opens : (u : Name) (x : ℕ) → book_holder k x k.writes ≡ some u → (k.entry u).stage ≢ absent) where
    abbrev open_book : Book
    open_book = begun c k

    module _ (current : ((k.entry w).stage ≡ absent) ⊎ ((k.entry w).stage ≡ running)) where
      same_holder : (x : ℕ) → book_holder open_book x open_book.writes ≡ book_holder k x k.writes
      same_holder x = begun_holder k c current x open_book.writes ∙ ap (book_holder k x) (begun_fields k c current).0

      still_holds : (u : Name) (x : ℕ) → (open_book.entry u).stage ≡ running → Memᴰ x (open_book.entry u).blocks
          → book_holder open_book x open_book.writes ≡ some u
      still_holds u x h p =
          let q : Memᴰ x (k.entry u).blocks = rw (begun_same k c current (λ e. e.blocks) (λ e. refl) u) at p in
          same_holder x ∙ same_or_not u w
          (λ e. elim current [
            | inl a ↦ absurd (mathlib.Core.List.Memᴰ.not-nil (rw (e, (f.unopened w a).0) at q))
            | inr a ↦ holds u x (rw e a) q
          ])
          (λ ne. holds u x (rw (begun_other k c current u ne) at h) q)

      still_open : (u : Name) (x : ℕ) → book_holder open_book x open_book.writes ≡ some u → (open_book.entry u).stage ≢ absent
      still_open u x h =
          same_or_not u w
          (λ e. rw e (running_present _ (begun_running k c current)))
          (λ ne. rw (begun_other k c current u ne) (opens u x (sym (same_holder x) ∙ h)))

    pub well_formed_write : ltb 8 (length ((write_book c b o v k).entry w).blocks) ≡ false
        → (not (is_running (k.entry w).stage) && ltb max_number (k.next c)) ≡ false
        → WellFormed (with_book l (write_book c b o v k))
    unfolding write_book note
    well_formed_write no_25 no_27 =
        let current = (f.ranks c hc).current in
        let opened : WellFormed (with_book l open_book)
        = begun_by k c current (λ x. WellFormed (with_book l x)) (λ e. f) (λ e. well_formed_begin e (ltb-false max_number (k.next c) (rw (ap is_running e) at no_27))) in
        well_formed_note (with_book l open_book) opened w (ap (λ (n : ℕ → ℕ). n c) (sym (begun_fields k c current).3)) b o v (begun_running k c current)
        (record { block = hb; offset = ho; size = size; bytes = is_bytes }) (still_holds current) (still_open current)
        (ltb-false 8 _ no_25)
