-- A home store since the barrier: of those that took a block and are not retired, one at most has stored it home. So none since the barrier
-- was of this block.
use Prim.Native.Nat.{ℕ, suc, ◌+◌, ◌-◌, ◌≤◌, ◌<◌}
use native.Mathlib.Omega.{arith}
use mathlib.Core.Path.{◌≡◌, refl, sym, ap, ◌∙◌, subst}
use mathlib.Core.Logic.{◌⊎◌, inl, inr, ◌≢◌, ⊎_elim}
use mathlib.Core.Bool.{Bool, false, So}
use mathlib.Core.List.{List, [], ◌∷◌, ◌++◌, Memᴰ}
use lib.ListN.{length, get_or, take, length-append, length-take}
use lib.Seq.{get_or_at, get_or-take}
use lib.Dec.{eqb}
use Rattle.model.specs.Lists.{any}
use Rattle.model.specs.Bytes.{Bytes, block_at, store}
use Rattle.model.specs.Shape.{home_block, journal_block}
use Rattle.model.specs.declared.Name.{Name}
use Rattle.model.specs.declared.Tail.{Tail}
use Rattle.model.specs.declared.CommitLayout.TheVariants.{Numbers}
use Rattle.model.proofs.Lists.{get_or_mem}
use Rattle.model.proofs.Valid.{same_name_refl}
use Rattle.model.proofs.Journal.{home_apart}
use Rattle.crash.specs.Book.{committed, is_closed, is_retired, stage_count, staged, Entry, kept}
use Rattle.crash.specs.Ledger.{Ledger, shares_lower_in}
use Rattle.crash.proofs.Books.Tests.{clash, in_any, block_equality}
use Rattle.crash.proofs.Books.BookEntries.{same_or_not, change_at, change_other, oldest_name, uncommitted_name, same_name_false}
use Rattle.crash.proofs.Books.Largest.{stage_of, member_of}
use Rattle.crash.proofs.Blocks.History.{Event, Status, Took, Older, Chain, older}
use Rattle.crash.proofs.Blocks.Invariant.{Inv, homed, homed_by, history_of, status, took_in}
use Rattle.crash.proofs.Blocks.InvariantSteps.{lower_retired}
use Rattle.crash.proofs.Disk.Relation.{IsBlock, WellFormed, contents, DiskStands}
use Rattle.crash.proofs.Disk.LedgerCheckpoint.{advanced, one_changed}
use Rattle.crash.proofs.Disk.JournalPast.{not_closing}
use Rattle.crash.proofs.Books.BookSteps.{Restages, restages_records}
use Rattle.crash.proofs.Disk.LedgerStages.{closed_present}
use Rattle.drive.specs.Since.{StoreKind, home, commit_since, home_since}
use Rattle.drive.specs.LostCommits.{book_without, ledger_without}
use Rattle.drive.proofs.Behind.Home.{some_now, cached_home, contents₀, contents_now, low_b, blocks_now, more_homes}
use Rattle.drive.proofs.Places.BetweenDisks.{Place, in_journal, at_home, HomeAt, BetweenDisks, commit_kept, part_kept, home_kept, between_more, place_kept}

-- ---- of two that took a block one is older
module _ {Txn Image : Type 0} (s : Status Txn) (homed : Txn → Bool) where
  pub one_older : (es : List (Event Txn Image)) → Chain s homed es → (t v : Txn) → Took t es → Took v es → (t ≡ v) ⊎ (Older s homed t v ⊎ Older s homed v t)
  one_older [] c t v a b = absurd a
  one_older (e ∷ es) c t v (inl a) b = ⊎_elim (λ q. inl (sym a ∙ q)) (λ o. inr (inl (subst (λ (x : Txn). Older s homed x v) a o))) (older s homed e es c v b)
  one_older (e ∷ es) c t v (inr a) (inl b) = ⊎_elim (λ q. inl (sym q ∙ b)) (λ o. inr (inr (subst (λ (x : Txn). Older s homed x t) b o))) (older s homed e es c t (inr a))
  one_older (e ∷ es) c t v (inr a) (inr b) = one_older es c.2 t v a b

pub mem_take : (n : ℕ) (bs : List ℕ) (i : ℕ) → i < n → i < length bs → Memᴰ (get_or bs i 0) (take n bs)
mem_take n bs i a b = subst (λ (x : ℕ). Memᴰ x (take n bs)) (get_or-take n bs i 0 a) (get_or_mem (take n bs) i 0 (simp length-take (omega arith)))

module _ {area : ℕ → Bytes} {l : Ledger} (v : Inv area l) (f : WellFormed l) {tail_at : ℕ → Tail} {ks : List StoreKind} {behind now : Bytes} (z : DiskStands Numbers l now tail_at)
    {places : List ℕ} {old : Bytes} (s : BetweenDisks l tail_at ks behind now places old) (few : length places < 64) (c : ℕ) (in_range_lem : c < l.shape.cores) (m : ℕ) (stage : stage_of l.book (oldest_name c l.book) ≡ committed m)
    (safe_t : So (member_of (kept (book_without (commit_since ks) l.book)) (oldest_name c l.book))) (none_lower : shares_lower_in l (oldest_name c l.book) ≡ false)
    (more : m < length (l.book.entry (oldest_name c l.book)).blocks) (image : Bytes) (block : IsBlock image)
    (fine₂ : WellFormed (advanced l (oldest_name c l.book) (committed (suc m)) l.book.oldest)) where
  abbrev t : Name
  t = oldest_name c l.book

  abbrev bs : List ℕ
  bs = (l.book.entry t).blocks

  abbrev b : ℕ
  b = get_or bs m 0

  abbrev l₂ : Ledger
  l₂ = advanced l t (committed (suc m)) l.book.oldest

  abbrev kinds : List StoreKind
  kinds = home t ∷ ks

  low : b < l.shape.blocks
  low = low_b f z s.cached c in_range_lem m stage safe_t more image block fine₂

  -- ---- none since the barrier was of this block
  took_t : So (took_in l.book b t)
  took_t = in_any block_equality (get_or_mem bs m 0 more)

  another : (x : Name) (n i : ℕ) → stage_of l.book x ≡ committed n → i < n → i < length (l.book.entry x).blocks → get_or (l.book.entry x).blocks i 0 ≡ b → x ≢ t → ⊥
  another x n i g a d e ne =
      let xs = (l.book.entry x).blocks in
      let took_x : So (took_in l.book b x) = subst (λ (j : ℕ). So (any (eqb j) xs)) e (in_any block_equality (get_or_mem xs i 0 d)) in
      let homed_x : So (homed l b x) = ap (homed_by b xs) g ∙ subst (λ (j : ℕ). So (any (eqb j) (take n xs))) e (in_any block_equality (mem_take n xs i a d)) in
      ⊎_elim ne
      (⊎_elim
      (λ o. clash (o.retires_first homed_x) (ap is_retired stage))
      (λ o. clash (lower_retired v t none_lower b took_t x took_x (ap is_closed g) (o.lower (ap is_closed stage))) (ap is_retired g)))
      (one_older (status l) (homed l b) (history_of l b) (v.block_inv b).chain x t (v.took b x took_x) (v.took b t took_t))

  fresh : (p : ℕ) → Place l tail_at ks p → p ≢ home_block b
  fresh p (in_journal a q h e lo hi o) y = home_apart l.shape a _ (home_block b) (omega (arith, low)) (sym y ∙ e)
  fresh p (at_home x n i h g a d e) y =
      let q : get_or (l.book.entry x).blocks i 0 ≡ b = (let r = sym e ∙ y in omega arith) in
      same_or_not x t
      (λ same.
      let c : n ≡ m = ap stage_count (sym g ∙ ap (stage_of l.book) same ∙ stage) in
      let d₂ : i < length bs = subst (λ (k : Name). i < length (l.book.entry k).blocks) same d in
      let q₂ : get_or bs i 0 ≡ b = subst (λ (k : Name). get_or (l.book.entry k).blocks i 0 ≡ b) same q in
      let r : i ≡ m = (f.limits t (closed_present _ (ap is_closed stage))).distinct i m d₂ more q₂ in
      omega arith)
      (another x n i g a d q)

  -- ---- places stay
  behind_same : (a : ℕ) → contents (ledger_without (commit_since ks) l₂) a ≡ contents (ledger_without (commit_since ks) l) a
  behind_same = contents₀ f z s.cached c in_range_lem m stage safe_t more image block fine₂

  now_same : (a : ℕ) → contents l₂ a ≡ contents l a
  now_same = contents_now f z s.cached c in_range_lem m stage safe_t more image block fine₂

  homes_on : (x : Name) (n : ℕ) → So (home_since ks x) → stage_of l.book x ≡ committed n
      → So (home_since kinds x) × ((k : ℕ) × (stage_of l₂.book x ≡ committed k) × (n ≤ k)) × ((l₂.book.entry x).blocks ≡ (l.book.entry x).blocks)
  unfolding any
  homes_on x n h g = (
    more_homes f z s.cached c in_range_lem m stage safe_t more image block fine₂ x h,
    same_or_not x t
        (λ e. let c : n ≡ m = ap stage_count (sym g ∙ ap (stage_of l.book) e ∙ stage) in
        (suc m, ap (stage_of l₂.book) e ∙ ap (λ (y : Entry). y.stage) (change_at t (staged (committed (suc m))) l.book.entry), omega arith))
        (λ ne. (n, ap (λ (y : Entry). y.stage) (change_other t (staged (committed (suc m))) l.book.entry x ne) ∙ g, omega arith)),
    blocks_now f z s.cached c in_range_lem m stage safe_t more image block fine₂ x,
  )

  kept_places : (p : ℕ) → Place l tail_at ks p → Place l₂ tail_at kinds p
  unfolding any
  kept_places =
      place_kept l l₂ tail_at ks kinds refl
      (λ a h o. ((let e = ap length (behind_same a) in omega arith), (let e = ap length (now_same a) in omega arith), o))
      homes_on

  new_place : Place l₂ tail_at kinds (home_block b)
  unfolding any
  new_place =
      let e : (l₂.book.entry t).blocks ≡ bs = blocks_now f z s.cached c in_range_lem m stage safe_t more image block fine₂ t in
      at_home t (suc m) m (rw (same_name_refl t) refl) (ap (λ (y : Entry). y.stage) (change_at t (staged (committed (suc m))) l.book.entry)) (omega arith)
      (rw e more) (rw e refl)

  changed : Restages l.book l₂.book t (committed (suc m))
  changed = one_changed l t (committed (suc m)) l.book.oldest

  stage_same : (a : ℕ) → stage_count (stage_of l.book (uncommitted_name a l.book)) ≡ stage_count (stage_of l₂.book (uncommitted_name a l₂.book))
  stage_same a = sym (ap (λ (y : Entry). stage_count y.stage) (changed.other (uncommitted_name a l.book) (not_closing f c in_range_lem (some_now f c in_range_lem m stage) a)))

  own_home : HomeAt l₂ (places ++ (home_block b ∷ [])) t
  own_home =
      let e : (l₂.book.entry t).blocks ≡ bs = changed.blocks t in
      record {
        index = length places;
        within = (let q = length-append places (home_block b ∷ []) in omega arith);
        step = m;
        took = rw e more;
        place = get_or_at places (home_block b) [] 0 (length places) refl ∙ rw e refl;
      }

  pub between_home : BetweenDisks l₂ tail_at kinds behind (store now (home_block b) image) (places ++ (home_block b ∷ [])) (store old (length places) (block_at now (home_block b)))
  unfolding any
  between_home =
      between_more s (home t) (home_block b) image block z.size z.bytes (omega (arith, low, f.range.few_blocks)) few fresh kept_places
      (cached_home f z s.cached c in_range_lem m stage safe_t more image block fine₂) new_place
      (λ a h p. commit_kept (home t) (home_block b) a refl
      (ap (λ (xs : List Bytes). journal_block l.shape a ((tail_at a).position + length xs)) (sym (behind_same a))) (λ marked. refl) (s.commits a h p))
      (λ a h p. part_kept (home_block b) a refl refl
      (restages_records changed a (l.book.oldest a) (l.book.uncommitted a - l.book.oldest a)) (omega (arith, stage_same a)) (s.parts a h p))
      (λ v p. same_or_not v t
      (λ e. subst (HomeAt l₂ (places ++ (home_block b ∷ []))) (sym e) own_home)
      (λ ne. home_kept (home_block b) v
      (blocks_now f z s.cached c in_range_lem m stage safe_t more image block fine₂ v) (s.homes v (rw (same_name_false v t ne) at p))))
