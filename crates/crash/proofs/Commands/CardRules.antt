-- The rule that the card finds for a WRITE is what the ledger's writer meets: no holder, itself, a running one, a closed one.
-- Running ones are the cores' current ones, in the card and in the ledger, and holders agree.
-- What the rules do to a transaction of the card they do to its entry in the ledger.
use Rattle.model.proofs.Base.{ℕ, ◌≤◌, ◌<◌, arith, ℕ_discrete, add-one, ◌≡◌, refl, sym, ap, ap₂, ◌∙◌, ◌≢◌, ◌⊎◌, inl, inr, true}
use Rattle.model.proofs.Base.{Option, none, some, List, [], ◌∷◌, ◌++◌, length, length-set, length-append, eq-eqb, ne_eqb}
use Rattle.model.proofs.Base.{any, set, subst, cond, eqb, get_or, get_or-set_same, get_or-set_other, get_or-replicate, Bytes}
use Prim.Native.Nat.{max}
use native.Mathlib.Omega.{max_cases}
use Rattle.model.specs.Layout.{highest_in}
use mathlib.Core.Bool.{and-false, and-true}
use lib.Seq.{take-suc-set}
use Rattle.model.specs.Card.{new_name, same_name, opened, taken, highest_of, with_block, with_name, new_holder, core_of, holder_of, is_held, holder_name}
use Rattle.model.specs.Command.{World}
use Rattle.model.specs.Write.{writer, writer_name, is_running_in, rule_for, writer_after}
use Rattle.model.specs.declared.Name.{Name}
use Rattle.model.specs.declared.Transaction.{Transaction}
use Rattle.model.specs.declared.Rule.TheVariants.{Free, Own, Running, Closed}
use Rattle.model.proofs.Lists.{cases}
use Rattle.model.proofs.Highest.{highest_append, highest_again}
use Rattle.crash.proofs.Books.Tests.{any_in, name_equality}
use Rattle.model.proofs.Valid.{same_name_refl}
use Rattle.crash.specs.Book.{absent, running, is_running, is_closed, Entry, Book, staged, taking, naming, begin, book_holder, Meeting, no_holder, own, running_holder, closed_holder, meets, ruled, change, write_book}
use Rattle.crash.specs.Ledger.{Ledger}
use Rattle.crash.proofs.Books.BookEntries.{same_or_not, same_name_false, change_at, change_other, next_name}
use Rattle.crash.proofs.Books.BookSteps.{begun, meeting, begun_other, write_entry}
use Rattle.crash.proofs.Disk.Relation.{Matches, holder_as, CardUp}
use Rattle.crash.proofs.Disk.LedgerStages.{present_open, closed_idle, running_next}

-- ---- a transaction of the card and its entry
matches_block : {t : Transaction} {e : Entry} → Matches t e → (b : ℕ) → length e.blocks < 8 → Matches (with_block t b) (taking b e)
unfolding taken highest_of
matches_block {t} {e} m b h =
    let n : t.count < length t.blocks = omega (arith, m.count, m.block_room) in
    record {
      live = m.live;
      blocks = rw add-one (take-suc-set t.blocks t.count b n ∙ ap (λ (l : List ℕ). l ++ (b ∷ [])) m.blocks);
      count = omega (arith, m.count, length-append e.blocks (b ∷ []));
      highest = m.highest;
      block_room = length-set t.blocks t.count b ∙ m.block_room;
      number_room = m.number_room;
    }

-- the highest number of a core after one more name
highest_named : (n : Name) (e : Entry) (c : ℕ) → highest_in (naming n e).names c ≡ max (highest_in e.names c) (cond (eqb c n.core) n.number 0)
highest_named n e c =
    cases (any (same_name n) e.names)
    (λ q.
    let m = any_in name_equality n e.names q in
    rw q (sym (highest_again e.names n c m) ∙ highest_append e.names n c))
    (λ q. rw q (highest_append e.names n c))

max_zero : (k : ℕ) → max k 0 ≡ k
max_zero k = max_cases k 0 (max k 0 ≡ k) (λ l e. omega arith) (λ l e. e)

-- eight numbers with that of a name's core raised
raised_at : (hs : List ℕ) (n : Name) (c k : ℕ) → length hs ≡ 8 → get_or hs c 0 ≡ k → c < 8
    → get_or (set hs n.core (max (get_or hs n.core 0) n.number)) c 0 ≡ max k (cond (eqb c n.core) n.number 0)
raised_at hs n c k size was b =
    elim (ℕ_discrete c n.core) [
      | yes q ↦ rw (eq-eqb c n.core q)
          (subst (λ (i : ℕ). get_or (set hs i (max (get_or hs i 0) n.number)) c 0 ≡ max k n.number) q
          (get_or-set_same hs c _ 0 (omega arith) ∙ ap (λ (k : ℕ). max k n.number) was))
      | no ne ↦ rw (ne_eqb c n.core ne) (get_or-set_other hs n.core c _ 0 ne ∙ was ∙ sym (max_zero k))
    ]

matches_name : {t : Transaction} {e : Entry} → Matches t e → (n : Name) → Matches (with_name t n) (naming n e)
unfolding taken with_name highest_of
matches_name {t} {e} m n =
    record {
      live = m.live;
      blocks = m.blocks;
      count = m.count;
      highest = λ c h. raised_at t.highest n c (highest_in e.names c) m.number_room (m.highest c h) h ∙ sym (highest_named n e c);
      block_room = m.block_room;
      number_room = length-set t.highest n.core _ ∙ m.number_room;
    }

-- one just opened
matches_opened : (e : Entry) → e.blocks ≡ [] → e.names ≡ [] → Matches opened e
unfolding taken highest_of highest_in
matches_opened e b n =
    record { live = refl; blocks = rw b refl; count = rw b refl; highest = λ c h. rw n (get_or-replicate 8 c 0 0 h); block_room = refl; number_room = refl }

-- ---- entries after a WRITE
module _ (k : Book) (c : ℕ) (current : ((k.entry (next_name c k)).stage ≡ absent) ⊎ ((k.entry (next_name c k)).stage ≡ running)) (b o : ℕ) (v : Bytes) where
  abbrev t : Name
  t = next_name c k

  ruled_by : (m : Meeting) → meeting c b k ≡ m → (n : Name) → (write_book c b o v k).entry n ≡ ruled m t b (begun c k).entry n
  ruled_by m e n = ap (λ (f : Name → Entry). f n) (write_entry k c current b o v ∙ ap (λ (m : Meeting). ruled m t b (begun c k).entry) e)

  pub entry_free : meeting c b k ≡ no_holder → (write_book c b o v k).entry t ≡ taking b ((begun c k).entry t)
  unfolding ruled
  entry_free e = ruled_by no_holder e t ∙ change_at t (taking b) (begun c k).entry

  pub entry_own : meeting c b k ≡ own → (write_book c b o v k).entry t ≡ (begun c k).entry t
  unfolding ruled
  entry_own e = ruled_by own e t

  module _ (n : Name) (other : n ≢ t) where
    pub entry_running : meeting c b k ≡ running_holder n → (write_book c b o v k).entry t ≡ naming n ((begun c k).entry t)
    unfolding ruled
    entry_running e =
        ruled_by (running_holder n) e t
        ∙ change_other n (naming t) (change t (naming n) (begun c k).entry) t (λ s. other (sym s))
        ∙ change_at t (naming n) (begun c k).entry

    pub entry_closed : meeting c b k ≡ closed_holder n → (write_book c b o v k).entry t ≡ taking b (naming n ((begun c k).entry t))
    unfolding ruled
    entry_closed e = ruled_by (closed_holder n) e t ∙ change_at t (λ (e : Entry). taking b (naming n e)) (begun c k).entry

    -- the running holder's
    pub entry_holder : meeting c b k ≡ running_holder n → (write_book c b o v k).entry n ≡ naming t (k.entry n)
    unfolding ruled
    entry_holder e =
        ruled_by (running_holder n) e n
        ∙ change_at n (naming t) (change t (naming n) (begun c k).entry)
        ∙ ap (naming t) (change_other t (naming n) (begun c k).entry n other ∙ begun_other k c current n other)

-- a list that has grown by one at the most
more_blocks : (b : ℕ) (e : Entry) → length (taking b e).blocks ≤ 8 → length e.blocks < 8
more_blocks b e h = omega (arith, length-append e.blocks (b ∷ []))

-- ---- running ones
module _ {l : Ledger} {w : World} (u : CardUp l w) where
  -- a core's transaction runs in the card where it does in the ledger
  pub live_runs : (a : ℕ) → a < l.shape.cores → (core_of w.card a).running.live ≡ is_running (l.book.entry (next_name a l.book)).stage
  live_runs a h =
      cases (is_running (l.book.entry (next_name a l.book)).stage)
      (λ e. ((u.cores a h).runs e).live ∙ sym e)
      (λ e. (u.cores a h).idle e ∙ sym e)

  runs_in : (n : Name) → n.core < l.shape.cores → is_running_in w.card n ≡ is_running (l.book.entry n).stage
  unfolding is_running_in
  runs_in n h =
      elim (ℕ_discrete (l.book.next n.core) n.number) [
        | yes e ↦ rw ((u.cores n.core h).next, eq-eqb (l.book.next n.core) n.number e, live_runs n.core h, e) (and-true _)
        | no ne ↦ rw ((u.cores n.core h).next, ne_eqb (l.book.next n.core) n.number ne, and-false)
            (sym (cases (is_running (l.book.entry n).stage) (λ e. absurd (ne (sym (running_next (u.well_formed.ranks n.core h) n.number e)))) (λ e. e)))
      ]

  module _ (c : ℕ) (in_range_lem : c < l.shape.cores) where
    pub writer_name_lem : writer_name w.card c ≡ next_name c l.book
    unfolding writer_name
    writer_name_lem = rw (u.cores c in_range_lem).next

    -- the writer, opened where none runs, and its entry
    pub writer_matches : Matches (writer w.card c) ((begun c l.book).entry (next_name c l.book))
    unfolding writer begin
    writer_matches =
        let t = next_name c l.book in
        rw (live_runs c in_range_lem)
        (elim (u.well_formed.ranks c in_range_lem).current [
          | inl e ↦ (let z = u.well_formed.unopened t e in
              rw (ap is_running e, change_at t (staged running) l.book.entry) (matches_opened (staged running (l.book.entry t)) z.0 z.1))
          | inr e ↦ rw (ap is_running e) ((u.cores c in_range_lem).runs (ap is_running e))
        ])

    module _ (b : ℕ) (low : b < l.shape.blocks) (opens : (n : Name) → book_holder l.book b l.book.writes ≡ some n → (l.book.entry n).stage ≢ absent) where
      -- another that holds the block
      pub record MetHolder (n : Name) : Type 0 where
        pub holder : book_holder l.book b l.book.writes ≡ some n
        pub name : holder_name (holder_of w.card b) ≡ n
        pub held : is_held (holder_of w.card b) ≡ true
        pub other : n ≢ next_name c l.book
        pub core : n.core < l.shape.cores

      pub data Met : Type 0 where
        met_none : book_holder l.book b l.book.writes ≡ none → meeting c b l.book ≡ no_holder → rule_for w.card c b ≡ Free → Met
        met_own : book_holder l.book b l.book.writes ≡ some (next_name c l.book) → is_held (holder_of w.card b) ≡ true → meeting c b l.book ≡ own → rule_for w.card c b ≡ Own → Met
        met_running : (n : Name) → MetHolder n → (l.book.entry n).stage ≡ running → n ≡ next_name n.core l.book → n.core ≢ c
            → meeting c b l.book ≡ running_holder n → rule_for w.card c b ≡ Running → Met
        met_closed : (n : Name) → MetHolder n → is_closed (l.book.entry n).stage ≡ true → meeting c b l.book ≡ closed_holder n → rule_for w.card c b ≡ Closed → Met

      pub rule_met : Met
      unfolding rule_for meets
      rule_met = go (book_holder l.book b l.book.writes) refl
        where
          go : (h : Option Name) → book_holder l.book b l.book.writes ≡ h → Met
          go none e = let q = u.holders b low ∙ ap holder_as e in met_none e (rw e refl) (rw q refl)
          go (some n) e =
              let q : holder_of w.card b ≡ new_holder n = u.holders b low ∙ ap holder_as e in
              let t = next_name c l.book in
              same_or_not n t
              (λ s. met_own (e ∙ ap some s) (rw q refl) (rw (e, s, same_name_refl t) refl) (rw (q, writer_name_lem, s, same_name_refl t) refl))
              (λ ne.
              let core : n.core < l.shape.cores = (u.well_formed.limits n (opens n e)).core in
              let m : MetHolder n = record { holder = e; name = rw q refl; held = rw q refl; other = ne; core = core } in
              cases (is_closed (l.book.entry n).stage)
              (λ k. met_closed n m k (rw (e, same_name_false n t ne, k) refl) (rw (q, writer_name_lem, same_name_false n t ne, runs_in n core, closed_idle (l.book.entry n).stage k) refl))
              (λ k.
              let r = present_open (l.book.entry n).stage (opens n e) k in
              let x : n.number ≡ l.book.next n.core = running_next (u.well_formed.ranks n.core core) n.number (ap is_running r) in
              met_running n m r (ap (new_name n.core) x) (λ y. ne (ap₂ new_name y (x ∙ ap l.book.next y))) (rw (e, same_name_false n t ne, k) refl)
              (rw (q, writer_name_lem, same_name_false n t ne, runs_in n core, r) refl)))

      -- a running holder's transaction
      pub holder_matches : (n : Name) → MetHolder n → (l.book.entry n).stage ≡ running → n ≡ next_name n.core l.book
          → Matches (core_of w.card n.core).running (l.book.entry n)
      holder_matches n h runs is =
          let live : is_running (l.book.entry (next_name n.core l.book)).stage ≡ true = rw (← is) (ap is_running runs) in
          rw (← is) at ((u.cores n.core h.core).runs live)

      -- what the rules make of the writer's transaction, and of a running holder's
      module _ (o : ℕ) (v : Bytes) where
        abbrev t₂ : Name
        t₂ = next_name c l.book

        abbrev k₂ : Book
        k₂ = write_book c b o v l.book

        abbrev e₁ : Entry
        e₁ = (begun c l.book).entry t₂

        pub writer_after_lem : length (k₂.entry t₂).blocks ≤ 8 → Matches (writer_after w.card c b) (k₂.entry t₂)
        unfolding writer_after
        writer_after_lem few =
            let current = (u.well_formed.ranks c in_range_lem).current in
            elim rule_met [
              | met_none _ e r ↦ (let q = entry_free l.book c current b o v e in
                  rw (r, q) (matches_block writer_matches b (more_blocks b e₁ (rw q at few))))
              | met_own _ _ e r ↦ (let q = entry_own l.book c current b o v e in rw (r, q) writer_matches)
              | met_running n h _ _ _ e r ↦ (let q = entry_running l.book c current b o v n h.other e in
                  rw (r, q, h.name) (matches_name writer_matches n))
              | met_closed n h _ e r ↦ (let q = entry_closed l.book c current b o v n h.other e in
                  rw (r, q, h.name) (matches_block (matches_name writer_matches n) b (more_blocks b (naming n e₁) (rw q at few))))
            ]

        module _ (n : Name) (h : MetHolder n) (runs : (l.book.entry n).stage ≡ running) (is : n ≡ next_name n.core l.book) where
          pub holder_after_lem : meeting c b l.book ≡ running_holder n
              → Matches (with_name (core_of w.card n.core).running (writer_name w.card c)) (k₂.entry n)
          holder_after_lem e =
              let q = entry_holder l.book c (u.well_formed.ranks c in_range_lem).current b o v n h.other e in
              rw (q, writer_name_lem) (matches_name (holder_matches n h runs is) t₂)
