-- The kept set and the valid set are each the largest of their kind, stated without how they are found.
-- Hence more commits keep more, kept is the largest for the transitive relation too, and the valid transactions are the
-- kept ones that are not retired: a name below its core's oldest number is that of a retired transaction, which is kept.
use mathlib.Core.Path.{◌≡◌, refl}
use mathlib.Core.Bool.{Bool, false, So, not, ◌&&◌, ◌||◌}
use mathlib.Core.Logic.{◌⊎◌, inl, inr, ⊎_elim, ⊎_map}
use mathlib.Core.List.Memᴰ
use mathlib.Core.List.{List, Memᴰ}
use lib.Dec.{ltb}
use Rattle.model.specs.Lists.{any, select}
use Rattle.model.specs.Card.{same_name}
use Rattle.model.specs.Shrink.{shrink, requires_it}
use Rattle.model.specs.declared.Name.{Name}
use Rattle.model.proofs.Lists.{cases, and_left, and_right, and_both, or_left, or_right, mem_all, mem_any, bool_ext}
use Rattle.model.proofs.Select.{mem_select, select_mem}
use Rattle.model.proofs.Shrink.{all_named, shrink_within, shrink_has, shrunk_names, depends_closed}
use Rattle.model.proofs.Valid.{same_name_true, same_name_refl}
use Rattle.crash.specs.Book.{Book, Stage, is_committed, is_retired, required_in, committed_in, required_within, kept}
use Rattle.crash.specs.Ledger.{unretired, met_in, valid_in}
use Rattle.crash.specs.Claims.{LargestKept}
use Rattle.crash.proofs.Books.Required.{listed_in_book}
use Rattle.crash.proofs.Books.Tests.{clash, any_in, in_any, name_equality}

-- `k` is the largest set of those in `from` in which each one listed is in the set, or is met without it
pub record Largest {Txn : Type 0} (from : Txn → Bool) (lists : Txn → Txn → Bool) (met : Txn → Bool) (k : Txn → Bool) : Type 1 where
  pub sub : (t : Txn) → So (k t) → So (from t)
  pub closed : (t u : Txn) → So (k t) → So (lists t u) → So (k u) ⊎ So (met u)
  pub max : (P : Txn → Type 0) → ((t : Txn) → P t → So (from t)) → ((t u : Txn) → P t → So (lists t u) → P u ⊎ So (met u)) → (t : Txn) → P t → So (k t)

-- ---- what follows from being largest
module _ {Txn : Type 0} where
  -- the same set, with `from` and `met` said otherwise
  largest_same : (from from' : Txn → Bool) (lists : Txn → Txn → Bool) (met met' k : Txn → Bool)
      → ((t : Txn) → from t ≡ from' t) → ((t u : Txn) → So (from t) → So (lists t u) → met u ≡ met' u)
      → Largest from lists met k → Largest from' lists met' k
  largest_same from from' lists met met' k f g l =
      record {
        sub = λ t h. rw (f t) at (l.sub t h);
        closed = λ t u h n. ⊎_map (λ p. p) (λ p. rw (g t u (l.sub t h) n) at p) (l.closed t u h n);
        max = λ P s c. l.max P (λ t p. rw (f t) (s t p)) (λ t u p n. ⊎_map (λ q. q) (λ q. rw (g t u (rw (f t) (s t p)) n) q) (c t u p n));
      }

  -- more transactions, of which the former ones list no others, give more
  pub largest_mono : (from from' : Txn → Bool) (lists lists' : Txn → Txn → Bool) (met k k' : Txn → Bool)
      → ((t : Txn) → So (from t) → So (from' t)) → ((t u : Txn) → So (from t) → So (lists' t u) → So (lists t u))
      → Largest from lists met k → Largest from' lists' met k' → (t : Txn) → So (k t) → So (k' t)
  largest_mono from from' lists lists' met k k' f n l l' =
      l'.max (λ t. So (k t)) (λ t h. f t (l.sub t h)) (λ t u h m. l.closed t u h (n t u (l.sub t h) m))

  -- the valid ones are the kept ones that are not retired
  module _ (committed retired : Txn → Bool) (lists : Txn → Txn → Bool) (k v : Txn → Bool)
      (lk : Largest committed lists (λ t. false) k) (lv : Largest (λ t. committed t && not (retired t)) lists retired v)
      (r : (t : Txn) → So (retired t) → So (k t)) where
    kept_listed : (t u : Txn) → So (k t) → So (lists t u) → So (k u)
    kept_listed t u h n = ⊎_elim (λ p. p) (λ p. clash p refl) (lk.closed t u h n)

    kept_valid : (t : Txn) → So (k t && not (retired t)) → So (v t)
    kept_valid =
        lv.max (λ t. So (k t && not (retired t)))
        (λ t h. and_both (lk.sub t (and_left (k t) _ h)) (and_right (k t) _ h))
        (λ t u h n. cases (retired u) inr (λ q. inl (and_both (kept_listed t u (and_left (k t) _ h) n) (rw q refl))))

    valid_or_retired : (t : Txn) → So (v t) ⊎ So (retired t) → So (k t)
    valid_or_retired = lk.max (λ t. So (v t) ⊎ So (retired t)) from (λ t u h n. inl (next t u h n))
      where
        from : (t : Txn) → So (v t) ⊎ So (retired t) → So (committed t)
        from t (inl h) = and_left (committed t) _ (lv.sub t h)
        from t (inr h) = lk.sub t (r t h)

        next : (t u : Txn) → So (v t) ⊎ So (retired t) → So (lists t u) → So (v u) ⊎ So (retired u)
        next t u (inl h) n = lv.closed t u h n
        next t u (inr h) n = cases (retired u) inr (λ q. inl (kept_valid u (and_both (kept_listed t u (r t h) n) (rw q refl))))

    valid_kept : (t : Txn) → v t ≡ (k t && not (retired t))
    valid_kept t =
        bool_ext (λ h. and_both (valid_or_retired t (inl h)) (and_right (committed t) _ (lv.sub t h))) (kept_valid t)

-- ---- the sets that shrinking leaves
-- a list of names as a set
abbrev pub member_of : List Name → Name → Bool
member_of ts t = any (same_name t) ts

abbrev pub stage_of : Book → Name → Stage
stage_of k t = (k.entry t).stage

-- t's list names u
abbrev pub lists_name : Book → Name → Name → Bool
lists_name k t u = member_of (k.entry t).names u

-- t depends on u: u is listed, or the one before
abbrev pub requires : Book → Name → Name → Bool
requires k t u = member_of (required_in k t) u

pub listed_requires : (k : Book) (t u : Name) → So (lists_name k t u) → So (requires k t u)
listed_requires k t u h = in_any name_equality (listed_in_book k t u (any_in name_equality u _ h))

module _ (names : Name → List Name) (gone : Name → Bool) (es : List Name) where
  shrunk_largest : Largest (member_of es) (λ t. member_of (names t)) gone (member_of (shrink (all_named names (λ (t : Name). t) same_name gone) es))
  shrunk_largest =
      let stays : List Name → Name → Bool = all_named names (λ (t : Name). t) same_name gone in
      record {
        sub = λ t h. in_any name_equality (shrink_within stays es t (any_in name_equality t _ h));
        closed =
            λ t u h n. ⊎_elim inr (λ m. inl (in_any name_equality (Memᴰ.cast m.2 m.1)))
            (shrunk_names names (λ t. t) same_name same_name_true same_name_refl gone es t (any_in name_equality t _ h) u (any_in name_equality u _ n));
        max =
            λ P s c t p. in_any name_equality
            (shrink_has stays P
            (λ fs sub e q.
            mem_all (λ (n : Name). gone n || any (λ (u : Name). same_name n u) fs) (names e)
            (λ n m. ⊎_elim (λ r. or_right (gone n) (mem_any (λ (u : Name). same_name n u) (sub n r) (same_name_refl n))) (λ g. or_left _ g) (c e n q (in_any name_equality m))))
            es (λ t p. any_in name_equality t es (s t p)) t p);
      }

member_select : (p : Name → Bool) (ts : List Name) → ((t : Name) → So (p t) → Memᴰ t ts) → (t : Name) → member_of (select p ts) t ≡ p t
member_select p ts f t =
    bool_ext
    (λ h. (select_mem p ts t (any_in name_equality t _ h)).1)
    (λ h. in_any name_equality (mem_select p ts t (f t h) h))

pub committed_largest : (k : Book) → Largest (member_of (committed_in k)) (requires k) (λ t. false) (member_of (kept k))
unfolding kept required_within
committed_largest k = shrunk_largest (required_in k) (λ t. false) (committed_in k)

-- Kept is the largest set for the transitive relation.
pub largest_kept : (k : Book) → LargestKept k
largest_kept k =
    let l : Largest (member_of (committed_in k)) (requires k) (λ t. false) (member_of (kept k)) = committed_largest k in
    record {
      is_one =
          record {
            committed_ones = λ t m. any_in name_equality t _ (l.sub t (in_any name_equality m));
            dependencies =
                depends_closed (λ t. Memᴰ t (kept k))
                (λ t u m n. ⊎_elim (any_in name_equality u _) (λ q. clash q refl) (l.closed t u (in_any name_equality m) (in_any name_equality n)));
          };
      has_others =
          λ ts h t m. any_in name_equality t _
          (l.max (λ t. Memᴰ t ts)
          (λ t m. in_any name_equality (h.committed_ones t m))
          (λ t u m n. inl (h.dependencies t u m (requires_it (any_in name_equality u _ n))))
          t m);
    }

-- of those that committed ones require, those below their core's oldest number are the retired
abbrev pub RetiredBelow : Book → Type 0
RetiredBelow k = (t u : Name) → So (is_committed (stage_of k t)) → So (requires k t u) → ltb u.number (k.oldest u.core) ≡ is_retired (stage_of k u)

module _ (k : Book) (opened : (t : Name) → So (is_committed (stage_of k t)) → Memᴰ t k.opened) where
  pub kept_largest : Largest (λ t. is_committed (stage_of k t)) (requires k) (λ t. false) (member_of (kept k))
  unfolding committed_in
  kept_largest =
      largest_same _ _ _ _ _ _ (member_select (λ t. is_committed (stage_of k t)) k.opened opened) (λ t u h n. refl) (committed_largest k)

  unretired_is : (t : Name) → member_of (unretired k) t ≡ (is_committed (stage_of k t) && not (is_retired (stage_of k t)))
  unfolding unretired
  unretired_is = member_select (λ t. is_committed (stage_of k t) && not (is_retired (stage_of k t))) k.opened (λ t h. opened t (and_left _ _ h))

  module _ (numbered : RetiredBelow k) where
    pub valid_largest : Largest (λ t. is_committed (stage_of k t) && not (is_retired (stage_of k t))) (requires k) (λ t. is_retired (stage_of k t)) (member_of (valid_in k))
    unfolding valid_in met_in
    valid_largest =
        largest_same _ _ (requires k) _ _ _ unretired_is (λ t u h n. numbered t u (and_left _ _ (rw (unretired_is t) at h)) n)
        (shrunk_largest (required_in k) (λ n. ltb n.number (k.oldest n.core)) (unretired k))

    pub valid_is_kept : ((t : Name) → So (is_retired (stage_of k t)) → So (member_of (kept k) t))
        → (t : Name) → member_of (valid_in k) t ≡ (member_of (kept k) t && not (is_retired (stage_of k t)))
    valid_is_kept = valid_kept (λ t. is_committed (stage_of k t)) (λ t. is_retired (stage_of k t)) (requires k) (member_of (kept k)) (member_of (valid_in k)) kept_largest valid_largest

-- Of two books the one with more committed, of which those committed in the first require no others, keeps more.
pub kept_more : (k k' : Book) → ((t : Name) → So (is_committed (stage_of k t)) → Memᴰ t k.opened) → ((t : Name) → So (is_committed (stage_of k' t)) → Memᴰ t k'.opened)
    → ((t : Name) → So (is_committed (stage_of k t)) → So (is_committed (stage_of k' t)))
    → ((t u : Name) → So (is_committed (stage_of k t)) → So (requires k' t u) → So (requires k t u))
    → (t : Name) → So (member_of (kept k) t) → So (member_of (kept k') t)
kept_more k k' opened opened' more fewer =
    largest_mono _ _ (requires k) (requires k') _ _ _ more fewer (kept_largest k opened) (kept_largest k' opened')
