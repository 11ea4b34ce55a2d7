-- STORE since the barrier: the block stored lies right after what its journal holds, so none since the barrier was of it.
use Prim.Native.Nat.{ℕ, suc, ◌+◌, ◌-◌, ◌≤◌, ◌<◌}
use native.Mathlib.Omega.{arith}
use native.Mathlib.Decide.{ℕ_discrete}
use mathlib.Core.Path.{◌≡◌, refl, sym, ap, ◌∙◌, subst}
use mathlib.Core.Logic.{◌⊎◌, inl, inr, ◌≢◌, ⊎_elim}
use mathlib.Core.Bool.{false, So}
use mathlib.Core.List.{List, [], ◌∷◌, ◌++◌}
use lib.ListN.{length, get_or, length-append}
use lib.Seq.{get_or_at}
use lib.Dec.{eqb}
use borrow.Author.Tests.{eq-eqb, ne_eqb}
use Rattle.model.specs.Lists.{any}
use Rattle.model.specs.Bytes.{Bytes, block_at, store}
use Rattle.model.specs.Shape.{home_block, journal_block}
use Rattle.model.specs.Card.{new_name, tail_of, core_of}
use Rattle.model.specs.Command.{World}
use Rattle.model.specs.declared.Name.{Name}
use Rattle.model.specs.declared.Tail.{Tail}
use Rattle.model.proofs.Lists.{cases, get_or_mem}
use Rattle.model.proofs.Valid.{same_name_refl}
use Rattle.model.proofs.Journal.{home_apart, cores_apart, journal_apart, journal_low}
use Rattle.crash.specs.Book.{committed, is_closed, is_committed, stage_count, Entry, store_book}
use Rattle.crash.specs.Ledger.{Ledger, with_book, record_blocks}
use Rattle.crash.proofs.Books.BookSteps.{restages_records}
use Rattle.crash.proofs.Books.Tests.{clash}
use Rattle.crash.proofs.Books.BookEntries.{next_name, uncommitted_name, other_core, same_name_false}
use Rattle.crash.proofs.Books.Largest.{stage_of}
use Rattle.crash.proofs.Disk.Relation.{WellFormed, contents, CardUp}
use Rattle.crash.proofs.Disk.LedgerStages.{closed_present}
use Rattle.crash.proofs.Commands.CardFrames.{contents_stay, none_stored}
use Rattle.crash.proofs.Commands.CardStore.{at, b, stage_now, within, room, length_contents, new, new_uncommitted, others, grown, is_block, more_uncommitted, more_entry, last_uncommitted}
use Rattle.drive.specs.Since.{StoreKind, record_part, commit, commit_since, home_since, part_since, lost_since}
use Rattle.drive.specs.LostCommits.{ledger_without}
use Rattle.drive.proofs.Lost.Mixed.{last_name}
use Rattle.drive.proofs.Behind.Store.{cached_part, part_behind, cached_commit, commit_first, commit_behind, commit_behind_other}
use Rattle.drive.proofs.Places.BetweenDisks.{Place, in_journal, at_home, CommitAt, used_in, PartAt, BetweenDisks, commit_kept, part_kept, home_kept, between_more, place_kept, without_shorter}

module _ {l : Ledger} {w : World} (u : CardUp l w) (c : ℕ) (in_range_lem : c < l.shape.cores) (busy : l.book.uncommitted c < l.book.next c)
    {ks : List StoreKind} {behind : Bytes} {places : List ℕ} {old : Bytes} (s : BetweenDisks l (tail_of w.card) ks behind w.disk places old) (few : length places < 64) where
  abbrev l₂ : Ledger
  l₂ = with_book l (store_book c l.book)

  abbrev place : ℕ
  place = at u c in_range_lem busy

  abbrev tails : ℕ → Tail
  tails = tail_of w.card

  -- ---- none since the barrier was of this block
  journal_fresh : (a q : ℕ) → q < length (contents l a) → journal_block l.shape a ((tails a).position + q) ≢ place
  journal_fresh a q h e =
      elim (ℕ_discrete a c) [
        | yes i ↦ (let n = length (contents l c) in
            let low : q < n = subst (λ (y : ℕ). q < length (contents l y)) i h in
            let top : n < l.shape.journal = omega (arith, length_contents u c in_range_lem busy, room u c in_range_lem busy, within u c in_range_lem busy) in
            journal_apart l.shape c (tails c).position q n (omega arith) top (omega arith) (subst (λ (y : ℕ). journal_block l.shape y ((tails y).position + q) ≡ place) i e))
        | no ne ↦ cores_apart l.shape a _ c _ (omega (arith, u.well_formed.range.long)) ne e
      ]

  fresh : (p : ℕ) → Place l tails ks p → p ≢ place
  fresh p (in_journal a q h e lo hi o) z = journal_fresh a q hi (sym e ∙ z)
  fresh p (at_home t m i h g a d e) z =
      let low = (u.well_formed.limits t (closed_present _ (ap is_closed g))).blocks _ (get_or_mem (l.book.entry t).blocks i 0 d) in
      home_apart l.shape c _ (home_block (get_or (l.book.entry t).blocks i 0)) (omega arith) (sym e ∙ z)

  other_contents : (a : ℕ) → a < l.shape.cores → a ≢ c → contents l₂ a ≡ contents l a
  other_contents a h ne =
      contents_stay l u.well_formed a h l₂ (others u c in_range_lem busy a ne)
      (ap (λ (e : Entry). stage_count e.stage) ((new u c in_range_lem busy).other (next_name a l.book) (other_core (l.book.next a) (l.book.uncommitted c) ne))
      ∙ none_stored l u.well_formed a h)

  own_contents : length (contents l₂ c) ≡ suc (length (contents l c))
  own_contents = ap length (grown u c in_range_lem busy) ∙ (let e = length-append (contents l c) (b u c in_range_lem busy ∷ []) in omega (arith, e))

  longer : (a : ℕ) → a < l.shape.cores → length (contents l a) ≤ length (contents l₂ a)
  longer a h =
      elim (ℕ_discrete a c) [
        | yes i ↦ subst (λ (y : ℕ). length (contents l y) ≤ length (contents l₂ y)) (sym i) (omega (arith, own_contents))
        | no ne ↦ (let e = ap length (other_contents a h ne) in omega arith)
      ]

  -- who stored home is not the one that is stored
  stays : (t : Name) (m : ℕ) → stage_of l.book t ≡ committed m → l₂.book.entry t ≡ l.book.entry t
  stays t m g =
      (new u c in_range_lem busy).other t (λ e. clash (ap is_committed g) (ap is_committed (ap (stage_of l.book) e ∙ stage_now u c in_range_lem busy)))

  homes_stay : (ks₂ : List StoreKind) → ((t : Name) → So (home_since ks t) → So (home_since ks₂ t)) → (t : Name) (m : ℕ) → So (home_since ks t) → stage_of l.book t ≡ committed m
      → So (home_since ks₂ t) × ((n : ℕ) × (stage_of l₂.book t ≡ committed n) × (m ≤ n)) × ((l₂.book.entry t).blocks ≡ (l.book.entry t).blocks)
  homes_stay ks₂ f t m h g = (f t h, (m, ap (λ (e : Entry). e.stage) (stays t m g) ∙ g, omega arith), ap (λ (e : Entry). e.blocks) (stays t m g))

  used_other : (a : ℕ) → a ≢ c → used_in l₂ a ≡ used_in l a
  unfolding store_book
  used_other a ne =
      ap (λ (n : ℕ). record_blocks (store_book c l.book) a (l.book.oldest a) (n - l.book.oldest a)) (unfold store_book in new_uncommitted u c in_range_lem busy a ne)
      ∙ (unfold store_book in restages_records (new u c in_range_lem busy) a (l.book.oldest a) (l.book.uncommitted a - l.book.oldest a))

  stage_other : (a : ℕ) → a ≢ c → stage_count (stage_of l.book (uncommitted_name a l.book)) ≡ stage_count (stage_of l₂.book (uncommitted_name a l₂.book))
  stage_other a ne =
      sym (ap (λ (n : ℕ). stage_count (stage_of l₂.book (new_name a n))) (new_uncommitted u c in_range_lem busy a ne)
      ∙ ap (λ (e : Entry). stage_count e.stage) ((new u c in_range_lem busy).other (uncommitted_name a l.book) (other_core (l.book.uncommitted a) (l.book.uncommitted c) ne)))

  blocks_stay : (t : Name) → (l₂.book.entry t).blocks ≡ (l.book.entry t).blocks
  blocks_stay = (new u c in_range_lem busy).blocks

  low_place : place < 257
  low_place = journal_low u.well_formed.range c _ in_range_lem

  abbrev stored : ℕ
  stored = (core_of w.card c).stored

  abbrev now₂ : Bytes
  now₂ = store w.disk place (b u c in_range_lem busy)

  abbrev old₂ : Bytes
  old₂ = store old (length places) (block_at w.disk place)

  last_other : (a : ℕ) → a ≢ c → last_name l₂ a ≡ last_name l a
  last_other a ne = ap (λ (n : ℕ). new_name a (n - 1)) (new_uncommitted u c in_range_lem busy a ne)

  -- ---- a descriptor or a data block
  module _ (more : stored ≤ length (l.book.entry (uncommitted_name c l.book)).blocks) where
    abbrev part_kinds : List StoreKind
    part_kinds = record_part c ∷ ks

    same_behind : ledger_without (commit_since ks) l₂ ≡ ledger_without (commit_since ks) l
    same_behind = part_behind u c in_range_lem busy s.cached more

    last_same : (a : ℕ) → last_name l₂ a ≡ last_name l a
    last_same a =
        elim (ℕ_discrete a c) [
          | yes i ↦ subst (λ (y : ℕ). last_name l₂ y ≡ last_name l y) (sym i) (ap (λ (n : ℕ). new_name c (n - 1)) (more_uncommitted u c in_range_lem busy more))
          | no ne ↦ last_other a ne
        ]

    parts_grow : (a : ℕ) → So (part_since ks a) → So (part_since part_kinds a)
    unfolding any
    parts_grow a h = cases (eqb a c) (λ e. rw e refl) (λ e. rw e h)

    part_places : (p : ℕ) → Place l tails ks p → Place l₂ tails part_kinds p
    unfolding any
    part_places =
        place_kept l l₂ tails ks part_kinds refl
        (λ a h o. (
          (let e = ap (λ (m : Ledger). length (contents m a)) same_behind in omega arith),
          longer a h,
          ⊎_elim (λ g. inl (parts_grow a g)) (λ g. inr (ap (commit_since ks) (last_same a) ∙ g)) o,
        ))
        (homes_stay part_kinds (λ t h. h))

    own_used : used_in l₂ c ≡ used_in l c
    unfolding store_book
    own_used =
        ap (λ (n : ℕ). record_blocks (store_book c l.book) c (l.book.oldest c) (n - l.book.oldest c)) (unfold store_book in more_uncommitted u c in_range_lem busy more)
        ∙ (unfold store_book in restages_records (new u c in_range_lem busy) c (l.book.oldest c) (l.book.uncommitted c - l.book.oldest c))

    own_stage : stage_count (stage_of l₂.book (uncommitted_name c l₂.book)) ≡ suc stored
    own_stage =
        ap (λ (n : ℕ). stage_count (stage_of l₂.book (new_name c n))) (more_uncommitted u c in_range_lem busy more)
        ∙ ap (λ (e : Entry). stage_count e.stage) (more_entry u c in_range_lem busy more)

    own_part : PartAt l₂ tails (places ++ (place ∷ [])) c
    own_part =
        let p = (tails c).position in
        let e : p + length (contents l c) ≡ p + (used_in l₂ c + stored) = (let n = own_used in omega (arith, n, length_contents u c in_range_lem busy, (u.cores c in_range_lem).used)) in
        record {
          index = length places;
          within = (let e = length-append places (place ∷ []) in omega arith);
          step = stored;
          stored = (let e = own_stage in omega arith);
          place = get_or_at places place [] 0 (length places) refl ∙ ap (journal_block l.shape c) e;
        }

    part_after : (a : ℕ) → a < l.shape.cores → So (part_since part_kinds a) → PartAt l₂ tails (places ++ (place ∷ [])) a
    unfolding any
    part_after a h p =
        elim (ℕ_discrete a c) [
          | yes i ↦ subst (PartAt l₂ tails (places ++ (place ∷ []))) (sym i) own_part
          | no ne ↦ (let q : So (part_since ks a) = rw (ne_eqb a c ne) at p in
              part_kept place a refl refl
              (used_other a ne) (omega (arith, stage_other a ne)) (s.parts a h q))
        ]

    pub between_part : BetweenDisks l₂ tails part_kinds behind now₂ (places ++ (place ∷ [])) old₂
    unfolding any
    between_part =
        between_more s (record_part c) place (b u c in_range_lem busy) (is_block u c in_range_lem busy) u.disk.size u.disk.bytes low_place few fresh part_places
        (cached_part u c in_range_lem busy s.cached more)
        (in_journal c (length (contents l c)) in_range_lem refl
        (let e = ap (λ (m : Ledger). length (contents m c)) same_behind in omega (arith, without_shorter u.well_formed (commit_since ks) s.cached.last c in_range_lem))
        (omega (arith, own_contents)) (inl (rw (eq-eqb c c refl) refl)))
        (λ a h g.
        let e = last_same a in
        commit_kept (record_part c) place a e
        (ap (λ (m : Ledger). journal_block l.shape a ((tails a).position + length (contents m a))) (sym same_behind)) (λ marked. refl)
        (s.commits a h (sym (ap (commit_since ks) e) ∙ g)))
        part_after
        (λ t p. home_kept place t (blocks_stay t) (s.homes t p))

  -- ---- the commit, where no part of its record is since the barrier
  module _ (all_stored : length (l.book.entry (uncommitted_name c l.book)).blocks < stored) (no_part : part_since ks c ≡ false) (fine₂ : WellFormed l₂) where
    abbrev g : Name
    g = uncommitted_name c l.book

    abbrev commit_kinds : List StoreKind
    commit_kinds = commit g ∷ ks

    first : commit_since ks (last_name l c) ≡ false
    first = commit_first u c in_range_lem busy s.cached all_stored no_part fine₂

    behind_own : contents (ledger_without (commit_since commit_kinds) l₂) c ≡ contents l c
    unfolding any
    behind_own = commit_behind u c in_range_lem busy s.cached all_stored no_part fine₂

    behind_other : (a : ℕ) → a < l.shape.cores → a ≢ c → contents (ledger_without (commit_since commit_kinds) l₂) a ≡ contents (ledger_without (commit_since ks) l) a
    unfolding any
    behind_other = commit_behind_other u c in_range_lem busy s.cached all_stored no_part fine₂

    last_own : last_name l₂ c ≡ g
    last_own = ap (new_name c) (omega (arith, last_uncommitted u c in_range_lem busy all_stored))

    since_other : (a : ℕ) → a ≢ c → commit_since commit_kinds (last_name l₂ a) ≡ commit_since ks (last_name l a)
    unfolding any
    since_other a ne = ap (commit_since commit_kinds) (last_other a ne) ∙ rw (same_name_false (last_name l a) g (other_core _ _ ne)) refl

    journals : (a : ℕ) → a < l.shape.cores → So (part_since ks a) ⊎ So (commit_since ks (last_name l a))
        → (length (contents (ledger_without (commit_since commit_kinds) l₂) a) ≤ length (contents (ledger_without (commit_since ks) l) a)) × (length (contents l a) ≤ length (contents l₂ a))
        × (So (part_since commit_kinds a) ⊎ So (commit_since commit_kinds (last_name l₂ a)))
    unfolding any
    journals a h o =
        elim (ℕ_discrete a c) [
          | yes i ↦ absurd (subst (λ (y : ℕ). So (part_since ks y) ⊎ So (commit_since ks (last_name l y)) → ⊥) (sym i) (⊎_elim (λ p. clash p no_part) (λ p. clash p first)) o)
          | no ne ↦ ((let e = ap length (behind_other a h ne) in omega arith), longer a h, ⊎_elim (λ p. inl p) (λ p. inr (since_other a ne ∙ p)) o)
        ]

    commit_places : (p : ℕ) → Place l tails ks p → Place l₂ tails commit_kinds p
    unfolding any
    commit_places = place_kept l l₂ tails ks commit_kinds refl journals (homes_stay commit_kinds (λ t h. h))

    own_commit : CommitAt l₂ tails commit_kinds (places ++ (place ∷ [])) c
    unfolding any
    own_commit =
        record {
          index = length places;
          within = (let e = length-append places (place ∷ []) in omega arith);
          place =
              get_or_at places place [] 0 (length places) refl
              ∙ ap (λ (xs : List Bytes). journal_block l.shape c ((tails c).position + length xs)) (sym behind_own);
          says = λ marked. ap (lost_since marked commit_kinds) last_own ∙ rw (same_name_refl g) (ap marked (sym s.count));
        }

    other_commit : (a : ℕ) → a < l.shape.cores → a ≢ c → So (commit_since commit_kinds (last_name l₂ a)) → CommitAt l₂ tails commit_kinds (places ++ (place ∷ [])) a
    unfolding any
    other_commit a h ne p =
        commit_kept (commit g) place a (last_other a ne)
        (ap (λ (xs : List Bytes). journal_block l.shape a ((tails a).position + length xs)) (sym (behind_other a h ne)))
        (λ marked. rw (same_name_false (last_name l a) g (other_core _ _ ne)) refl)
        (s.commits a h (sym (since_other a ne) ∙ p))

    pub between_commit : BetweenDisks l₂ tails commit_kinds behind now₂ (places ++ (place ∷ [])) old₂
    unfolding any
    between_commit =
        between_more s (commit g) place (b u c in_range_lem busy) (is_block u c in_range_lem busy) u.disk.size u.disk.bytes low_place few fresh commit_places
        (cached_commit u c in_range_lem busy s.cached all_stored no_part fine₂)
        (in_journal c (length (contents l c)) in_range_lem refl (let e = ap length behind_own in omega arith) (omega (arith, own_contents))
        (inr (ap (commit_since commit_kinds) last_own ∙ rw (same_name_refl g) refl)))
        (λ a h p. elim (ℕ_discrete a c) [
          | yes i ↦ subst (λ (y : ℕ). CommitAt l₂ tails commit_kinds (places ++ (place ∷ [])) y) (sym i) own_commit
          | no ne ↦ other_commit a h ne p
        ])
        (λ a h p. elim (ℕ_discrete a c) [
          | yes i ↦ clash (subst (λ (y : ℕ). So (part_since ks y)) i p) no_part
          | no ne ↦ part_kept place a refl refl
              (used_other a ne) (omega (arith, stage_other a ne)) (s.parts a h p)
        ])
        (λ t p. home_kept place t (blocks_stay t) (s.homes t p))
