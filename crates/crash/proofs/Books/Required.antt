-- What a transaction of a book requires: what it lists, and the one before it where that is not before the core's first.
use Prim.Native.Nat.{◌≤◌, ◌<◌}
use mathlib.Core.Path.{◌≡◌, refl}
use mathlib.Core.Logic.{◌⊎◌, inl, inr}
use mathlib.Core.List.{Memᴰ}
use lib.Dec.{ltb}
use borrow.Author.Tests.{ltb-true, ltb-false}
use Rattle.model.specs.Valid.{predecessor, required}
use Rattle.model.specs.declared.Name.{Name}
use Rattle.model.proofs.Lists.{cases}
use Rattle.model.proofs.Required.{listed_required, required_cases}
use Rattle.crash.specs.Book.{Book, required_in}

module _ (k : Book) (t u : Name) where
  -- the card requires what the book requires, and before the core's first one the one before it, which the book has not
  pub book_required : Memᴰ u (required_in k t) → Memᴰ u (required k.begun.order t (k.entry t).names)
  unfolding required_in
  book_required m =
      cases (ltb (k.begun.first t.core) t.number) (λ e. rw e at m) (λ e. listed_required k.begun.order t u (k.entry t).names (rw e at m))

  pub listed_in_book : Memᴰ u (k.entry t).names → Memᴰ u (required_in k t)
  unfolding required_in
  listed_in_book m =
      cases (ltb (k.begun.first t.core) t.number) (λ e. rw e (listed_required k.begun.order t u (k.entry t).names m)) (λ e. rw e m)

  pub required_in_book : Memᴰ u (required k.begun.order t (k.entry t).names) → Memᴰ u (required_in k t) ⊎ ((u ≡ predecessor t) × (t.number ≤ k.begun.first t.core))
  required_in_book m =
      cases (ltb (k.begun.first t.core) t.number)
      (λ e. inl (unfold required_in in rw e m))
      (λ e. elim (required_cases k.begun.order t u (k.entry t).names m) [ inl l ↦ inl (listed_in_book l) | inr p ↦ inr (p, ltb-false _ _ e) ])

  pub book_required_cases : Memᴰ u (required_in k t) → Memᴰ u (k.entry t).names ⊎ ((u ≡ predecessor t) × (k.begun.first t.core < t.number))
  book_required_cases m =
      cases (ltb (k.begun.first t.core) t.number)
      (λ e. elim (required_cases k.begun.order t u (k.entry t).names (book_required m)) [ inl l ↦ inl l | inr p ↦ inr (p, ltb-true _ _ e) ])
      (λ e. inl (unfold required_in in (rw e at m)))

pub required_same : (k k' : Book) (t : Name) → k'.begun ≡ k.begun → (k'.entry t).names ≡ (k.entry t).names → required_in k' t ≡ required_in k t
unfolding required_in
required_same k k' t b n = rw (b, n) refl
