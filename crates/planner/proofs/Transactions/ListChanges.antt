-- Where two ledgers differ in one transaction of core c, their lists differ in the list of core c alone, and there in that transaction.
use Rattle.model.proofs.Base.{ℕ, zero, suc, ◌+◌, ◌-◌, ◌≤◌, ◌<◌, arith, ℕ_discrete, ◌≡◌, refl, sym, ap, ap₂, subst, ◌∙◌, ◌≢◌, inl, inr, cond}
use Rattle.model.proofs.Base.{List, [], ◌∷◌, ◌++◌, append_assoc, Memᴰ, mem_not_nil, mem_append_cases, mem_eq_of_singleton, length}
use Rattle.model.proofs.Base.{flat_map, below}
use Rattle.model.specs.Card.{new_name}
use Rattle.model.specs.declared.Name.{Name}
use Rattle.model.proofs.Lists.{mem_below, flat_map_same, flat_map_append}
use Rattle.crash.specs.Book.{Entry, is_running}
use Rattle.crash.specs.Ledger.{Ledger}
use Rattle.crash.proofs.Books.BookEntries.{other_number, other_core}
use Rattle.planner.specs.Plan.{Unretired, runs}
use Rattle.planner.proofs.Transactions.Replaced.{Replaced}
use Rattle.planner.proofs.Transactions.LedgerList.{entry_as, entries_from, closed_of, running_of, core_list, ledger_list, entries_at}

-- ---- one list of several
-- the numbers below n: those below c, c, and those above
record Split (c n : ℕ) : Type 0 where
  above : List ℕ
  is : below n ≡ below c ++ (c ∷ above)
  higher : (i : ℕ) → Memᴰ i above → c < i

split : (c n : ℕ) → c < n → Split c n
unfolding below
split c zero h = absurd (omega arith)
split c (suc n) h =
    elim (ℕ_discrete n c) [
      | yes e ↦ record { above = []; is = ap (λ (i : ℕ). below i ++ (i ∷ [])) e; higher = λ i m. absurd (mem_not_nil m) }
      | no ne ↦ (let s = split c n (omega arith) in
          record {
            above = s.above ++ (n ∷ []);
            is = ap (λ (is : List ℕ). is ++ (n ∷ [])) s.is ∙ append_assoc (below c) (c ∷ s.above) (n ∷ []);
            higher =
                λ i m.
                elim (mem_append_cases s.above m)
                [ inl p ↦ s.higher i p | inr p ↦ (let e : i ≡ n = mem_eq_of_singleton p in omega arith) ];
          })
    ]

regroup : {A : Type 0} (ps bs xs cs rs : List A) → ps ++ ((bs ++ (xs ++ cs)) ++ rs) ≡ (ps ++ bs) ++ (xs ++ (cs ++ rs))
regroup ps bs xs cs rs =
    ap (λ (zs : List _). ps ++ zs) (append_assoc bs (xs ++ cs) rs ∙ ap (λ (zs : List _). bs ++ zs) (append_assoc xs cs rs))
    ∙ sym (append_assoc ps bs (xs ++ (cs ++ rs)))

module _ (f g : ℕ → List Unretired) (c n : ℕ) (in_range_lem : c < n) (others : (i : ℕ) → i ≢ c → g i ≡ f i) {a : Unretired} {bs : List Unretired}
    (r : Replaced (f c) (g c) a bs) where
  flat_f : (h : ℕ → List Unretired) (s : Split c n) → flat_map h (below n) ≡ flat_map h (below c) ++ (h c ++ flat_map h s.above)
  unfolding flat_map
  flat_f h s = ap (flat_map h) s.is ∙ flat_map_append h (below c) (c ∷ s.above)

  -- before it stand the lists below the one that changes
  flat_replaced : (z : Replaced (flat_map f (below n)) (flat_map g (below n)) a bs) × (z.before ≡ flat_map f (below c) ++ r.before)
  flat_replaced =
      let s = split c n in_range_lem in
      let ps = flat_map f (below c) in
      let rs = flat_map f s.above in
      let p : flat_map g (below c) ≡ ps = flat_map_same g f (below c) (λ i m. others i (λ e. omega (arith, mem_below c m))) in
      let q : flat_map g s.above ≡ rs = flat_map_same g f s.above (λ i m. others i (λ e. omega (arith, s.higher i m))) in (
        record {
          before = ps ++ r.before;
          after = r.after ++ rs;
          was = flat_f f s ∙ ap (λ (us : List Unretired). ps ++ (us ++ rs)) r.was ∙ regroup ps r.before (a ∷ []) r.after rs;
          is =
              flat_f g s
              ∙ ap₂ (λ (us vs : List Unretired). us ++ (g c ++ vs)) p q
              ∙ ap (λ (us : List Unretired). ps ++ (us ++ rs)) r.is
              ∙ regroup ps r.before bs r.after rs;
        },
        refl,
      )

-- ---- two ledgers
pub entry_same : (l l' : Ledger) (u : Name) → l'.book.entry u ≡ l.book.entry u → l'.stamp u ≡ l.stamp u → entry_as l' u ≡ entry_as l u
unfolding entry_as
entry_same l l' u e s =
    ap₂ (λ (x : Entry) (n : ℕ). record { name = u; stamp = cond (is_running x.stage) 0 n; count = length x.blocks; stage = x.stage }) e s

pub list_by : (l : Ledger) (c : ℕ) {o n : ℕ} → l.book.oldest c ≡ o → l.book.next c ≡ n → core_list l c ≡ entries_from l c o (n - o) ++ running_of l c
unfolding core_list closed_of
list_by l c e h = ap₂ (λ (x y : ℕ). entries_from l c x (y - x) ++ running_of l c) e h

abbrev if_runs : Unretired → List Unretired
if_runs u = cond (runs u) (u ∷ []) []

running_of_lem : (l : Ledger) (c : ℕ) → running_of l c ≡ if_runs (entry_as l (new_name c (l.book.next c)))
unfolding running_of runs entry_as
running_of_lem l c = refl

module _ (l l' : Ledger) (c j : ℕ) (other : (u : Name) → u ≢ new_name c j → entry_as l' u ≡ entry_as l u) where
  pub entries_same : (a i n : ℕ) → ((m : ℕ) → i ≤ m → m < i + n → new_name a m ≢ new_name c j) → entries_from l' a i n ≡ entries_from l a i n
  unfolding entries_from
  entries_same a i zero h = refl
  entries_same a i (suc n) h =
      ap₂ ◌∷◌ (other (new_name a i) (h i (omega arith) (omega arith))) (entries_same a (suc i) n (λ m p q. h m (omega arith) (omega arith)))

  running_same : (a : ℕ) → l'.book.next a ≡ l.book.next a → new_name a (l.book.next a) ≢ new_name c j → running_of l' a ≡ running_of l a
  running_same a e ne =
      running_of_lem l' a
      ∙ ap if_runs (ap (λ (n : ℕ). entry_as l' (new_name a n)) e ∙ other (new_name a (l.book.next a)) ne)
      ∙ sym (running_of_lem l a)

  list_other : (a : ℕ) → a ≢ c → l'.book.oldest a ≡ l.book.oldest a → l'.book.next a ≡ l.book.next a → core_list l' a ≡ core_list l a
  unfolding core_list closed_of
  list_other a ne o n =
      ap₂ ◌++◌
      (ap₂ (λ (x y : ℕ). entries_from l' a x (y - x)) o n
      ∙ entries_same a (l.book.oldest a) (l.book.next a - l.book.oldest a) (λ m p q. other_core m j ne))
      (running_same a n (other_core (l.book.next a) j ne))

  -- the list of core c gives the whole
  pub list_replaced : c < l.shape.cores → l'.shape.cores ≡ l.shape.cores → ((a : ℕ) → a ≢ c → l'.book.oldest a ≡ l.book.oldest a)
      → ((a : ℕ) → a ≢ c → l'.book.next a ≡ l.book.next a) → {x : Unretired} {ys : List Unretired} (r : Replaced (core_list l c) (core_list l' c) x ys)
      → (z : Replaced (ledger_list l) (ledger_list l') x ys) × (z.before ≡ flat_map (core_list l) (below c) ++ r.before)
  unfolding ledger_list
  list_replaced h s o n {x} {ys} r =
      subst
      (λ (m : ℕ).
      (z : Replaced (flat_map (core_list l) (below l.shape.cores)) (flat_map (core_list l') (below m)) x ys) × (z.before ≡ flat_map (core_list l) (below c) ++ r.before))
      (sym s)
      (flat_replaced (core_list l) (core_list l') c l.shape.cores h (λ a ne. list_other a ne (o a ne) (n a ne)) r)

  module _ (low : l.book.oldest c ≤ j) (high : j < l.book.next c) (n : l'.book.next c ≡ l.book.next c) where
    abbrev later : List Unretired
    later = entries_from l c (suc j) (l.book.next c - suc j) ++ running_of l c

    list_was : core_list l c ≡ entries_from l c (l.book.oldest c) (j - l.book.oldest c) ++ (entry_as l (new_name c j) ∷ later)
    list_was =
        let o = l.book.oldest c in
        list_by l c refl refl
        ∙ ap (λ (us : List Unretired). us ++ running_of l c) (entries_at l c o j (l.book.next c) low high)
        ∙ append_assoc (entries_from l c o (j - o)) (entry_as l (new_name c j) ∷ entries_from l c (suc j) (l.book.next c - suc j)) (running_of l c)

    later_same : entries_from l' c (suc j) (l.book.next c - suc j) ++ running_of l' c ≡ later
    later_same =
        ap₂ ◌++◌ (entries_same c (suc j) (l.book.next c - suc j) (λ m p q. other_number c (λ e. omega arith)))
        (running_same c n (other_number c (λ e. omega arith)))

    -- it stays in its place
    pub core_moved : l'.book.oldest c ≡ l.book.oldest c → Replaced (core_list l c) (core_list l' c) (entry_as l (new_name c j)) (entry_as l' (new_name c j) ∷ [])
    core_moved e =
        let o = l.book.oldest c in
        record {
          before = entries_from l c o (j - o);
          after = later;
          was = list_was;
          is = now;
        }
      where
        now : core_list l' c ≡ entries_from l c (l.book.oldest c) (j - l.book.oldest c) ++ (entry_as l' (new_name c j) ∷ later)
        now =
            let o = l.book.oldest c in
            list_by l' c e n
            ∙ ap (λ (us : List Unretired). us ++ running_of l' c) (entries_at l' c o j (l.book.next c) low high)
            ∙ append_assoc (entries_from l' c o (j - o)) (entry_as l' (new_name c j) ∷ entries_from l' c (suc j) (l.book.next c - suc j)) (running_of l' c)
            ∙ ap₂ (λ (us vs : List Unretired). us ++ (entry_as l' (new_name c j) ∷ vs))
            (entries_same c o (j - o) (λ m p q. other_number c (λ e. omega arith))) later_same

    -- the oldest leaves
    pub core_retired : l.book.oldest c ≡ j → l'.book.oldest c ≡ suc j → Replaced (core_list l c) (core_list l' c) (entry_as l (new_name c j)) []
    core_retired i e =
        record {
          before = [];
          after = later;
          was = list_was ∙ none;
          is = now;
        }
      where
        none : entries_from l c (l.book.oldest c) (j - l.book.oldest c) ++ (entry_as l (new_name c j) ∷ later) ≡ entry_as l (new_name c j) ∷ later
        none =
            let z : j - l.book.oldest c ≡ 0 = omega arith in
            ap (λ (m : ℕ). entries_from l c (l.book.oldest c) m ++ (entry_as l (new_name c j) ∷ later)) z ∙ (unfold entries_from in refl)

        now : core_list l' c ≡ later
        now = list_by l' c e n ∙ later_same
