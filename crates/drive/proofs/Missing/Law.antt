-- The third clause of 40 in the paper's words: a valid transaction is valid behind the barrier exactly if neither its commit nor that of
-- any that it depends on is since the barrier.
use Prim.Native.Nat.{ℕ}
use mathlib.Core.Path.{◌≡◌, refl, sym, ap, ◌∙◌, subst}
use mathlib.Core.Logic.{◌⊎◌, inl, inr, ⊎_elim}
use mathlib.Core.Bool.{Bool, true, false, So, not, ◌&&◌}
use mathlib.Core.List.{Memᴰ}
use lib.ListN.{length}
use Rattle.model.specs.Lists.{any}
use Rattle.model.specs.Card.{is_up}
use Rattle.model.specs.Shrink.{DependsOn, requires_it, through}
use Rattle.model.specs.declared.Name.{Name}
use Rattle.model.specs.declared.Tail.{Tail}
use Rattle.model.specs.Bytes.{Bytes}
use Rattle.model.specs.Command.{World}
use borrow.Author.Tests.{eq-eqb, not-false}
use Rattle.model.proofs.Lists.{cases, and_left, and_right, and_both}
use Rattle.crash.specs.Book.{stage_count, Stage, Book, is_committed, is_retired, required_in, kept}
use Rattle.crash.specs.Ledger.{Ledger, valid_in}
use Rattle.crash.specs.Claims.{Requires}
use Rattle.crash.proofs.Books.Tests.{clash, any_in, in_any, name_equality}
use Rattle.crash.proofs.Books.BookEntries.{by_stage, oldest_name}
use Rattle.crash.proofs.Books.Largest.{member_of, stage_of, requires, kept_largest, largest_kept, valid_is_kept}
use Rattle.crash.proofs.Disk.Relation.{WellFormed}
use Rattle.crash.proofs.Runs.UpSteps.{RelatedUp, retired_below}
use Rattle.drive.specs.Drive.{Drive}
use Rattle.drive.specs.DriveLedger.{DriveLedger, home_too_early}
use Rattle.drive.specs.Since.{commit_since}
use Rattle.drive.specs.LostCommits.{stage_without, book_without, ledger_without}
use Rattle.drive.proofs.Lost.Without.{none_commits, Last, well_formed_without, stage_retired}
use Rattle.drive.proofs.Lost.Mixed.{CommittedKnown, known_formed}
use Rattle.drive.proofs.Behind.Cached.{Cached}
use Rattle.drive.proofs.Steps.Related.{Formatted, drive_up, drive_master, drive_down}

-- t, or one that it depends on
abbrev pub OrDependedOn : Book → Name → Name → Type 0
OrDependedOn k t u = (t ≡ u) ⊎ DependsOn (Requires k) t u

lost_stage : (n : ℕ) (g : Stage) → is_retired g ≡ false → is_committed (stage_without true n g) ≡ false
lost_stage n = by_stage (λ g. is_retired g ≡ false → is_committed (stage_without true n g) ≡ false) (λ h. refl) (λ h. refl) (λ m h. refl) (λ m h. refl) (λ h. clash refl h)

module _ {l : Ledger} (f : WellFormed l) (since : Name → Bool) (last : Last l since)
    (retired_kept : (t : Name) → So (is_retired (stage_of l.book t)) → So (member_of (kept l.book) t))
    (safe : (t : Name) → So (is_retired (stage_of l.book t)) → So (member_of (kept (book_without since l.book)) t)) where
  abbrev k : Book
  k = l.book

  abbrev k₀ : Book
  k₀ = book_without since l.book

  formed₀ : WellFormed (ledger_without since l)
  formed₀ = well_formed_without f since last

  known : CommittedKnown l.book
  known = known_formed f

  known₀ : CommittedKnown k₀
  known₀ = known_formed formed₀

  valid₀ : (t : Name) → member_of (valid_in k₀) t ≡ (member_of (kept k₀) t && not (is_retired (stage_of k₀ t)))
  valid₀ = valid_is_kept k₀ known₀ (retired_below (ledger_without since l) formed₀) (λ v h. safe v (sym (stage_retired since l.book v) ∙ h))

  valid_now_lem : (t : Name) → member_of (valid_in k) t ≡ (member_of (kept k) t && not (is_retired (stage_of k t)))
  valid_now_lem = valid_is_kept k known (retired_below l f) retired_kept

  -- what is committed behind the barrier has its commit there
  not_since : (u : Name) → So (is_committed (stage_of k₀ u)) → since u ≡ false
  unfolding book_without
  not_since u h =
      cases (since u)
      (λ s. clash (rw s at h) (lost_stage (length (l.book.entry u).blocks) (stage_of l.book u) (ap is_retired (last u s).0)))
      (λ s. s)

  still : (u : Name) → since u ≡ false → So (is_committed (stage_of l.book u)) → So (is_committed (stage_of k₀ u))
  unfolding book_without
  still u s h = rw s (none_commits (length (l.book.entry u).blocks) (stage_of l.book u) ∙ h)

  requires_same : (t u : Name) → requires k₀ t u ≡ requires k t u
  unfolding book_without required_in
  requires_same t u = refl

  depends_same : (t u : Name) → DependsOn (Requires k) t u → DependsOn (Requires k₀) t u
  unfolding book_without required_in
  depends_same t u (requires_it m) = requires_it m
  depends_same t u (through m r) = through m (depends_same _ u r)

  -- valid behind the barrier: none of these commits is since it
  behind_none : (t : Name) → So (member_of (valid_in k₀) t) → (u : Name) → OrDependedOn k t u → since u ≡ false
  behind_none t v u b =
      let in_kept : So (member_of (kept k₀) t) = and_left (member_of (kept k₀) t) _ (sym (valid₀ t) ∙ v) in
      let u_kept : So (member_of (kept k₀) u) =
      ⊎_elim (λ e. subst (λ (x : Name). So (member_of (kept k₀) x)) e in_kept)
      (λ r. in_any name_equality ((largest_kept k₀).is_one.dependencies t u (any_in name_equality t _ in_kept) (depends_same t u r))) b in
      not_since u ((kept_largest k₀ known₀).sub u u_kept)

  -- none of them is: valid behind it too
  none_behind : (t : Name) → So (member_of (valid_in k) t) → ((u : Name) → OrDependedOn k t u → since u ≡ false) → So (member_of (valid_in k₀) t)
  none_behind t v none =
      let both = sym (valid_now_lem t) ∙ v in
      let t_kept : So (member_of (kept k) t) = and_left (member_of (kept k) t) _ both in
      let alive : not (is_retired (stage_of k t)) ≡ true = and_right (member_of (kept k) t) _ both in
      let t₀ : So (member_of (kept k₀) t) =
      (kept_largest k₀ known₀).max (λ u. So (member_of (kept k) u) × OrDependedOn k t u)
      (λ u p. still u (none u p.1) ((kept_largest k known).sub u p.0))
      (λ u x p r.
      let q : So (requires k u x) = sym (requires_same u x) ∙ r in
      inl (
        ⊎_elim (λ y. y) (λ y. clash y refl) ((kept_largest k known).closed u x p.0 q),
        inr (further u x p.1 (any_in name_equality x _ q)),
      ))
      t (t_kept, inl refl) in
      valid₀ t ∙ and_both t₀ (ap not (stage_retired since l.book t) ∙ alive)
    where
      extend : {a b x : Name} → DependsOn (Requires k) a b → Memᴰ x (required_in k b) → DependsOn (Requires k) a x
      extend (requires_it m) r = through m (requires_it r)
      extend (through m d) r = through m (extend d r)

      further : (u x : Name) → OrDependedOn k t u → Memᴰ x (required_in k u) → DependsOn (Requires k) t x
      further u x (inl e) r = requires_it (subst (λ (y : Name). Memᴰ x (required_in k y)) (sym e) r)
      further u x (inr d) r = extend d r

-- ---- of a drive that is up
-- neither its commit nor that of any that it depends on is among those told
abbrev pub AllBehind : Ledger → (Name → Bool) → Name → Type 0
AllBehind l since t = (v : Name) → OrDependedOn l.book t v → since v ≡ false

abbrev pub ValidBehind : Ledger → (Name → Bool) → Name → Type 0
ValidBehind l since t = So (member_of (valid_in (book_without since l.book)) t)

cached_law : {l : Ledger} {w : World} (u : RelatedUp l w) {tail_at : ℕ → Tail} {since homes : Name → Bool} {parts : ℕ → Bool} {behind now : Bytes} → Cached l tail_at since homes parts behind now
    → (t : Name) → So (member_of (valid_in l.book) t) → (ValidBehind l since t → AllBehind l since t) × (AllBehind l since t → ValidBehind l since t)
cached_law {l} u {since = since} y t valid =
    let f = u.up.well_formed in
    let safe : (v : Name) → So (is_retired (stage_of l.book v)) → So (member_of (kept (book_without since l.book)) v) = λ v h. y.safe v (inl h) in
    (behind_none f since y.last u.inv.retired_kept safe t, none_behind f since y.last u.inv.retired_kept safe t valid)

-- A valid transaction is valid behind the barrier exactly if neither its commit nor that of any that it depends on is since the barrier.
pub valid_behind_law : {d : DriveLedger} {w : Drive} → Formatted d w → is_up d.now.phase ≡ true → (t : Name) → So (member_of (valid_in d.now.book) t)
    → (ValidBehind d.now (commit_since d.since) t → AllBehind d.now (commit_since d.since) t)
    × (AllBehind d.now (commit_since d.since) t → ValidBehind d.now (commit_since d.since) t)
valid_behind_law (drive_up u) h t valid = cached_law u.up u.between.cached t valid
valid_behind_law {d} (drive_master u) h t valid =
    let e : commit_since d.since ≡ commit_since u.kinds = ap commit_since u.is_master_lem ∙ (unfold any in refl) in
    subst (λ (since : Name → Bool). (ValidBehind d.now since t → AllBehind d.now since t) × (AllBehind d.now since t → ValidBehind d.now since t)) (sym e)
    (cached_law u.up u.between.cached t valid)
valid_behind_law (drive_down v) h t valid = clash h (ap is_up v.down.ledger)

-- So of the oldest transaction of core c, valid and with nothing stored home, the third clause says just that.
pub too_early_law : {d : DriveLedger} {w : Drive} → Formatted d w → is_up d.now.phase ≡ true → (c : ℕ) → So (member_of (valid_in d.now.book) (oldest_name c d.now.book))
    → stage_count (stage_of d.now.book (oldest_name c d.now.book)) ≡ 0
    → (home_too_early c d ≡ false → AllBehind d.now (commit_since d.since) (oldest_name c d.now.book))
    × (AllBehind d.now (commit_since d.since) (oldest_name c d.now.book) → home_too_early c d ≡ false)
unfolding home_too_early
too_early_law {d} r h c valid none_home =
    let t = oldest_name c d.now.book in
    let law = valid_behind_law r h t valid in
    rw (eq-eqb (stage_count (stage_of d.now.book t)) 0 none_home) (λ q. law.0 (not-false _ q), λ q. ap not (law.1 q))
