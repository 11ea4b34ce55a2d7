-- What recovery gives: each block gets the image of the highest-stamped valid transaction that took it, or stays as it is.
-- That is the area as the card came up with the kept writes, since the valid transactions are the kept unretired ones.
-- Nothing is assumed of how the reader finds that transaction: `NewestHolder` says what it has to be.
use Rattle.model.proofs.Base.{ℕ, ◌≤◌, arith, ◌≡◌, refl, sym, ap, ◌∙◌, ⊎_elim, Bool, false, not, ◌&&◌, So, Option, none, some}
use Rattle.model.proofs.Base.{List, [], ◌∷◌, ◌++◌, Memᴰ, mem_head, mem_tail, mem_not_nil}
use Rattle.model.proofs.Base.{mem_cases_cons, eqb, leb, leb-true, leb-false, not-true, select, Bytes}
use Rattle.model.specs.declared.Name.{Name}
use Rattle.model.proofs.Lists.{cases, and_left, and_right, and_both}
use Rattle.crash.specs.Book.{Write, is_retired, kept, kept_writes, image, blank}
use Rattle.crash.specs.Ledger.{Ledger, valid_in}
use Rattle.crash.proofs.Books.Tests.{clash, any_in, in_any, name_equality}
use Rattle.crash.proofs.Blocks.History.{value, keep, NewestKept, recovered_image, recovers}
use Rattle.crash.proofs.Books.Largest.{member_of, stage_of, RetiredBelow, valid_is_kept}
use Rattle.crash.proofs.Blocks.Invariant.{history, image_history, area_before, history_of, took_in, homed, status, Inv, opened_of, sound_of}

-- ---- the kept writes
history_select : (p : Name → Bool) (ws : List Write) (b : ℕ) → history b (select (λ (w : Write). p w.writer) ws) ≡ keep p (history b ws)
unfolding select
history_select p [] b = refl
history_select p (w ∷ ws) b =
    cases (p w.writer)
    (λ h. cases (eqb b w.block) (λ k. rw (h, k, h, history_select p ws b) refl) (λ k. rw (h, k, history_select p ws b) refl))
    (λ h. cases (eqb b w.block) (λ k. rw (h, k, h, history_select p ws b) refl) (λ k. rw (h, k, history_select p ws b) refl))

image_append : (base : ℕ → Bytes) (us ws : List Write) (b : ℕ) → image base (us ++ ws) b ≡ image (image base ws) us b
unfolding image
image_append base [] ws b = refl
image_append base (u ∷ us) ws b = rw (image_append base us ws b) refl

kept_image : (l : Ledger) (b : ℕ) → image blank (kept_writes l.book ++ l.saved) b ≡ value (area_before l b) (keep (member_of (kept l.book)) (history_of l b))
unfolding kept_writes
kept_image l b =
    image_append blank (kept_writes l.book) l.saved b
    ∙ image_history (area_before l) (kept_writes l.book) b
    ∙ ap (value (area_before l b)) (history_select (member_of (kept l.book)) l.book.writes b)

-- ---- what is found for a block: of the valid ones that took it, one of highest stamp, if there is any
abbrev pub NewestHolder : Ledger → ℕ → Option Name → Type 0
NewestHolder l b none = (t : Name) → So (member_of (valid_in l.book) t) → So (took_in l.book b t) → ⊥
NewestHolder l b (some t) =
    So (member_of (valid_in l.book) t) × So (took_in l.book b t)
    × ((u : Name) → So (member_of (valid_in l.book) u) → So (took_in l.book b u) → l.stamp u ≤ l.stamp t)

-- there is one, or none took the block
module _ (p : Name → Bool) (f : Name → ℕ) where
  abbrev HighestOf : List Name → Option Name → Type 0
  HighestOf ts none = (t : Name) → Memᴰ t ts → So (p t) → ⊥
  HighestOf ts (some t) = Memᴰ t ts × So (p t) × ((u : Name) → Memᴰ u ts → So (p u) → f u ≤ f t)

  highest : (ts : List Name) → (o : Option Name) × HighestOf ts o
  highest [] = (none, λ t m h. mem_not_nil m)
  highest (x ∷ ts) = cases (p x) (λ h. with_x h (highest ts)) (λ h. without_x h (highest ts))
    where
      with_x : So (p x) → (o : Option Name) × HighestOf ts o → (o : Option Name) × HighestOf (x ∷ ts) o
      with_x h (none, k) =
          (some x, (mem_head refl, h, λ u m q. ⊎_elim (λ e. rw e (omega arith)) (λ n. absurd (k u n q)) (mem_cases_cons m)))
      with_x h (some t, k) =
          cases (leb (f x) (f t))
          (λ o. (some t, (mem_tail k.0, k.1, λ u m q. ⊎_elim (λ e. rw e (leb-true (f x) (f t) o)) (λ n. k.2 u n q) (mem_cases_cons m))))
          (λ o. (
            some x,
            (
              mem_head refl,
              h,
              λ u m q. ⊎_elim (λ e. rw e (omega arith)) (λ n. omega (arith, leb-false (f x) (f t) o, k.2 u n q)) (mem_cases_cons m),
            ),
          ))

      without_x : p x ≡ false → (o : Option Name) × HighestOf ts o → (o : Option Name) × HighestOf (x ∷ ts) o
      without_x h (none, k) = (none, λ t m q. ⊎_elim (λ e. clash (rw e at q) h) (λ n. k t n q) (mem_cases_cons m))
      without_x h (some t, k) =
          (some t, (mem_tail k.0, k.1, λ u m q. ⊎_elim (λ e. clash (rw e at q) h) (λ n. k.2 u n q) (mem_cases_cons m)))

pub newest_holder : (l : Ledger) (b : ℕ) → (o : Option Name) × NewestHolder l b o
newest_holder l b = as_tests (highest (took_in l.book b) l.stamp (valid_in l.book))
  where
    as_tests : (o : Option Name) × HighestOf (took_in l.book b) l.stamp (valid_in l.book) o → (o : Option Name) × NewestHolder l b o
    as_tests (none, k) = (none, λ t m q. k t (any_in name_equality t _ m) q)
    as_tests (some t, k) = (some t, (in_any name_equality k.0, k.1, λ u m q. k.2 u (any_in name_equality u _ m) q))

-- what the block then holds: the image of the one found, `image_at l t b`, or what stood at home, `home b`
abbrev block_after : (ℕ → Bytes) → Ledger → ℕ → Option Name → Bytes
block_after home l b = recovered_image name_equality (area_before l b) (home b) (history_of l b)

module _ {home : ℕ → Bytes} {l : Ledger} (v : Inv home l) (numbered : RetiredBelow l.book) (b : ℕ) where
  valid_is : (t : Name) → member_of (valid_in l.book) t ≡ (member_of (kept l.book) t && not (is_retired (stage_of l.book t)))
  valid_is = valid_is_kept l.book (opened_of l.book v.known) numbered v.retired_kept

  to_valid : (t : Name) → So (member_of (kept l.book) t) → is_retired (stage_of l.book t) ≡ false → So (member_of (valid_in l.book) t)
  to_valid t h r = rw (valid_is t) (and_both h (rw r refl))

  newest_pick : (o : Option Name) → NewestHolder l b o → NewestKept (status l) (history_of l b) o
  newest_pick none k = λ t m h. cases (is_retired (stage_of l.book t)) (λ r. r) (λ r. absurd (k t (to_valid t h r) (v.taken b t m)))
  newest_pick (some t) k =
      let h : So (member_of (kept l.book) t && not (is_retired (stage_of l.book t))) = rw (valid_is t) at k.0 in (
        v.took b t k.1,
        and_left (member_of (kept l.book) t) _ h,
        not-true _ (and_right (member_of (kept l.book) t) _ h),
        λ u m h r. k.2 u (to_valid u h r) (v.taken b u m),
      )

  pub newest_target : (o : Option Name) → NewestHolder l b o → block_after home l b o ≡ image blank (kept_writes l.book ++ l.saved) b
  newest_target o k =
      recovers name_equality (status l) (sound_of l v.known v.retired_kept) (homed l b) (area_before l b) (home b) (history_of l b) (v.block_inv b) o (newest_pick o k)
      ∙ sym (kept_image l b)
