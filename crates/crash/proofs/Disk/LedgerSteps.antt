-- CLOSE, STORE, CHECKPOINT and RETIRE keep the ledger in order: each gives one transaction its next stage and raises the number, if any,
-- that counts those past it; limits, names and images of all others stay.
use Rattle.model.proofs.Base.{length}
use Rattle.model.proofs.Base.{ℕ, suc, ◌≤◌, ◌<◌, arith, ℕ_discrete, ◌≡◌, refl, sym, ap, subst, ◌∙◌, ◌≢◌, true, List, [], map}
use Rattle.model.proofs.Base.{length-map, Bytes}
use mathlib.Core.List.Memᴰ
use Rattle.model.specs.Card.{new_name}
use Rattle.model.specs.declared.Shape.{Shape}
use Rattle.model.specs.declared.Name.{Name}
use Rattle.model.proofs.Lists.{get_or_mem}
use Rattle.crash.specs.Book.{Stage, absent, running, closed, committed, retired, is_closed, Entry, Book, raise, close_book, store_book, checkpoint_book, retire_book}
use Rattle.crash.specs.Ledger.{Ledger, with_book, image_now, close_ledger}
use Rattle.crash.proofs.Books.Tests.{clash}
use Rattle.crash.proofs.Books.BookEntries.{oldest_name, next_name, same_or_not, raise_other}
use Rattle.crash.proofs.Books.BookSteps.{Restages, restaged, restages, restages_keep, checkpoint_home, retire_restages, close_stamp, close_images, close_stamp_other, close_images_other}
use Rattle.crash.proofs.Disk.Relation.{IsBlock, Limits, Frozen, Ranks, sum_next, WellFormed}
use Rattle.crash.proofs.Disk.LedgerStages.{closed_present, running_present}
use Rattle.crash.proofs.Disk.LedgerFresh.{now_block, same_frozen}
use Rattle.crash.proofs.Disk.LedgerRanks.{sum_same, sum_raised, ranks_elsewhere, ranks_closed, ranks_stored, ranks_committed, ranks_homed, ranks_retired, store_by}

-- ---- the ledger with one transaction's stage, numbers, stamps and images replaced
pub limits_same : (s : Shape) (t : Name) (e e' : Entry) → e'.blocks ≡ e.blocks → Limits s t e → Limits s t e'
limits_same s t e e' b l =
    record {
      core = l.core;
      low = l.low;
      high = l.high;
      few = rw b l.few;
      blocks = rw b l.blocks;
      distinct = rw b l.distinct;
    }

abbrev restaged_ledger : Ledger → Name → Stage → (ℕ → ℕ) → (ℕ → ℕ) → (ℕ → ℕ) → ℕ → (Name → ℕ) → (Name → List Bytes) → Ledger
restaged_ledger l t g oldest uncommitted next closes stamp images =
    record {
      shape = l.shape;
      saved = l.saved;
      book = restaged t g oldest uncommitted next l.book;
      closes = closes;
      stamp = stamp;
      images = images;
      phase = l.phase;
      left = l.left;
    }

-- the transaction is open before and after
module _ (l : Ledger) (f : WellFormed l) (t : Name) (g : Stage) (was : (l.book.entry t).stage ≢ absent) (is : g ≢ absent)
    (o v n : ℕ → ℕ) (closes : ℕ) (stamp : Name → ℕ) (images : Name → List Bytes) where
  abbrev moved : Ledger
  moved = restaged_ledger l t g o v n closes stamp images

  abbrev step : Restages l.book moved.book t g
  step = restages t g o v n l.book

  open_before : (u : Name) → (moved.book.entry u).stage ≢ absent → (l.book.entry u).stage ≢ absent
  open_before u h = same_or_not u t (λ e. rw e was) (λ ne. rw (step.other u ne) at h)

  open_after : (u : Name) → (l.book.entry u).stage ≢ absent → (moved.book.entry u).stage ≢ absent
  open_after u h = same_or_not u t (λ e. rw (e, step.stage) is) (λ ne. rw (step.other u ne) h)

  absent_before : (u : Name) → (moved.book.entry u).stage ≡ absent → (l.book.entry u).stage ≡ absent
  absent_before u h = same_or_not u t (λ e. absurd (is (sym step.stage ∙ rw e at h))) (λ ne. rw (step.other u ne) at h)

  well_formed_moved : ((c : ℕ) → c < l.shape.cores → Ranks moved.book c) → ((u : Name) → is_closed (moved.book.entry u).stage ≡ true → Frozen moved u)
      → ((u x : Name) → is_closed (moved.book.entry u).stage ≡ true → is_closed (moved.book.entry x).stage ≡ true → stamp u ≡ stamp x → u ≡ x)
      → ((a i j : ℕ) → i < j → is_closed (moved.book.entry (new_name a i)).stage ≡ true → is_closed (moved.book.entry (new_name a j)).stage ≡ true
      → stamp (new_name a i) < stamp (new_name a j))
      → closes ≤ sum_next moved.book l.shape.cores → WellFormed moved
  well_formed_moved ranks frozen stamps ascending count =
      record {
        sequence = f.sequence;
        range = f.range;
        ranks = ranks;
        far = λ u h. same_or_not u t (λ e. absurd (was (f.far t (rw e at h)))) (λ ne. rw (step.other u ne) (f.far u h));
        limits = λ u h. limits_same l.shape u (l.book.entry u) (moved.book.entry u) (step.blocks u) (f.limits u (open_before u h));
        unopened = λ u h. rw (step.blocks u, step.names u) (f.unopened u (absent_before u h));
        named = λ u x m. open_after x (f.named u x (rw (step.names u) at m));
        frozen = frozen;
        stamps = stamps;
        ascending = ascending;
        closes = count;
        opened = λ u m. open_after u (f.opened u m);
        known = λ u h. f.known u (open_before u h);
        writes = f.writes;
        saved = f.saved;
      }

-- ---- CLOSE, STORE, CHECKPOINT, RETIRE
module _ (l : Ledger) (f : WellFormed l) (c : ℕ) (hc : c < l.shape.cores) where
  abbrev k : Book
  k = l.book

  -- CLOSE
  module _ (run : (k.entry (next_name c k)).stage ≡ running) (idle : k.uncommitted c ≡ k.next c) where
    abbrev t : Name
    t = next_name c k

    abbrev closing : Restages k (restaged t (closed 0) k.oldest k.uncommitted (raise c k.next) k) t (closed 0)
    closing = restages t (closed 0) k.oldest k.uncommitted (raise c k.next) k

    frozen_closed : Frozen (close_ledger c l) t
    unfolding close_ledger close_book
    frozen_closed =
        let bs = (k.entry t).blocks in
        let e = closing.blocks t in
        let i = close_images l c in
        let s = close_stamp l c in
        record {
          count = rw (i, e) (length-map bs (image_now l));
          images = rw i (λ j h.
              let m = Memᴰ.of_map (image_now l) bs (get_or_mem (map (image_now l) bs) j [] h) in
              subst (λ (x : Bytes). IsBlock x) m.2 (now_block l f m.0));
          low = rw s (omega arith);
          high = rw s (omega arith);
        }

    -- the others that are closed were so before
    module _ (u : Name) (ne : u ≢ t) (h : is_closed ((close_book c k).entry u).stage ≡ true) where
      was_closed : is_closed (k.entry u).stage ≡ true
      unfolding close_book
      was_closed = rw (closing.other u ne) at h

      still_frozen : Frozen (close_ledger c l) u
      unfolding close_ledger close_book
      still_frozen =
          let z = f.frozen u was_closed in
          let e = closing.blocks u in
          let i = close_images_other l c u ne in
          let s = close_stamp_other l c u ne in
          record { count = rw (i, e) z.count; images = rw i z.images; low = rw s z.low; high = rw s (omega arith) }

      newest : (x : Name) → x ≡ t → (close_ledger c l).stamp x ≢ (close_ledger c l).stamp u
      newest x e q =
          let z = f.frozen u was_closed in
          let p : suc l.closes ≡ l.stamp u = sym (rw e (close_stamp l c)) ∙ q ∙ close_stamp_other l c u ne in
          omega arith

    closed_stamps : (u x : Name) → is_closed ((close_book c k).entry u).stage ≡ true → is_closed ((close_book c k).entry x).stage ≡ true
        → (close_ledger c l).stamp u ≡ (close_ledger c l).stamp x → u ≡ x
    closed_stamps u x hu hx s =
        same_or_not u t
        (λ e. same_or_not x t (λ d. e ∙ sym d) (λ nd. absurd (newest x nd hx u e s)))
        (λ ne. same_or_not x t
        (λ d. absurd (newest u ne hu x d (sym s)))
        (λ nd. f.stamps u x (was_closed u ne hu) (was_closed x nd hx) (sym (close_stamp_other l c u ne) ∙ s ∙ close_stamp_other l c x nd)))

    -- the one closed has the highest stamp, and none above it is open
    closed_ascending : (a i j : ℕ) → i < j → is_closed ((close_book c k).entry (new_name a i)).stage ≡ true
        → is_closed ((close_book c k).entry (new_name a j)).stage ≡ true
        → (close_ledger c l).stamp (new_name a i) < (close_ledger c l).stamp (new_name a j)
    closed_ascending a i j lt hi hj =
        same_or_not (new_name a j) t
        (λ e. let ne : new_name a i ≢ t = λ d. (let p : i ≡ j = ap (λ (n : Name). n.number) (d ∙ sym e) in omega arith) in
        let top : (close_ledger c l).stamp (new_name a j) ≡ suc l.closes = rw e (close_stamp l c) in
        let same = close_stamp_other l c (new_name a i) ne in
        omega (arith, (f.frozen (new_name a i) (was_closed (new_name a i) ne hi)).high))
        (λ nj. same_or_not (new_name a i) t
        (λ e. let p : a ≡ c = ap (λ (n : Name). n.core) e in
        let q : i ≡ k.next c = ap (λ (n : Name). n.number) e in
        let above = (f.ranks c hc).rest j (omega arith) in
        clash (was_closed (new_name a j) nj hj) (ap is_closed (subst (λ (x : ℕ). (k.entry (new_name x j)).stage ≡ absent) (sym p) above)))
        (λ ni. let si = close_stamp_other l c (new_name a i) ni in
        let sj = close_stamp_other l c (new_name a j) nj in
        omega (arith, f.ascending a i j lt (was_closed (new_name a i) ni hi) (was_closed (new_name a j) nj hj))))

    pub well_formed_close : WellFormed (close_ledger c l)
    unfolding close_ledger close_book
    well_formed_close =
        well_formed_moved l f t (closed 0) (running_present _ run) (closed_present _ refl) k.oldest k.uncommitted (raise c k.next)
        (suc l.closes) (close_ledger c l).stamp (close_ledger c l).images
        (λ a h. elim (ℕ_discrete a c) [
          | yes e ↦ subst (λ (a : ℕ). Ranks (close_book c k) a) (sym e) (ranks_closed k c (f.ranks c hc) idle (f.limits t (running_present _ run)).high)
          | no ne ↦ ranks_elsewhere k c (k.next c) (closed 0) k.oldest k.uncommitted (raise c k.next) a ne refl refl (raise_other c k.next a ne) (f.ranks a h)
        ])
        (λ u h. same_or_not u t (λ e. subst (λ (u : Name). Frozen (close_ledger c l) u) (sym e) frozen_closed) (λ ne. still_frozen u ne h))
        closed_stamps
        closed_ascending
        (let h = (sum_raised k (close_book c k) c refl l.shape.cores).1 hc in let g = f.closes in omega arith)

  -- STORE, CHECKPOINT and RETIRE: the closed one stays closed
  module _ (i : ℕ) (g : Stage) (o u : ℕ → ℕ) (was : is_closed (k.entry (new_name c i)).stage ≡ true) (is : is_closed g ≡ true)
      (elsewhere : (a : ℕ) → a ≢ c → (o a ≡ k.oldest a) × (u a ≡ k.uncommitted a)) (here : Ranks (restaged (new_name c i) g o u k.next k) c) where
    well_formed_advanced : WellFormed (with_book l (restaged (new_name c i) g o u k.next k))
    well_formed_advanced =
        let s = new_name c i in
        let after = restaged s g o u k.next k in
        let step = restages s g o u k.next k in
        let before : (x : Name) → is_closed (after.entry x).stage ≡ true → is_closed (k.entry x).stage ≡ true
        = λ x h. sym (restages_keep step is_closed (is ∙ sym was) x) ∙ h in
        well_formed_moved l f s g (closed_present _ was) (closed_present g is) o u k.next l.closes l.stamp l.images
        (λ a h. elim (ℕ_discrete a c) [
          | yes e ↦ subst (λ (a : ℕ). Ranks after a) (sym e) here
          | no ne ↦ ranks_elsewhere k c i g o u k.next a ne (elsewhere a ne).0 (elsewhere a ne).1 refl (f.ranks a h)
        ])
        (λ x h. same_frozen l (with_book l after) x refl refl refl (step.blocks x) (f.frozen x (before x h)))
        (λ x y hx hy. f.stamps x y (before x hx) (before y hy))
        (λ a x y lt hx hy. f.ascending a x y lt (before (new_name a x) hx) (before (new_name a y) hy))
        (let e = sum_same k after (λ a. refl) l.shape.cores in let h = f.closes in omega arith)

  pub well_formed_store : k.uncommitted c < k.next c → WellFormed (with_book l (store_book c k))
  well_formed_store due =
      let r = f.ranks c hc in
      store_by k c r (λ x. WellFormed (with_book l x)) due
      (λ n was more. well_formed_advanced (k.uncommitted c) (closed (suc n)) k.oldest k.uncommitted (ap is_closed was) refl (λ a ne. (refl, refl)) (ranks_stored k c r n due more))
      (λ n was last. well_formed_advanced (k.uncommitted c) (committed 0) k.oldest (raise c k.uncommitted) (ap is_closed was) refl
      (λ a ne. (refl, raise_other c k.uncommitted a ne)) (ranks_committed k c r n due))

  module _ (due : k.oldest c < k.uncommitted c) {n : ℕ} (was : (k.entry (oldest_name c k)).stage ≡ committed n) where
    pub well_formed_checkpoint : n < length (k.entry (oldest_name c k)).blocks → WellFormed (with_book l (checkpoint_book c k))
    well_formed_checkpoint more =
        let r = f.ranks c hc in
        rw (checkpoint_home c n k was)
        (well_formed_advanced (k.oldest c) (committed (suc n)) k.oldest k.uncommitted (ap is_closed was) refl (λ a ne. (refl, refl)) (ranks_homed k c r n due more))

    pub well_formed_retire : WellFormed (with_book l (retire_book c k))
    well_formed_retire =
        let r = f.ranks c hc in
        rw (retire_restages c n k)
        (well_formed_advanced (k.oldest c) retired (raise c k.oldest) k.uncommitted (ap is_closed was) refl
        (λ a ne. (raise_other c k.oldest a ne, refl)) (ranks_retired k c r n due))
