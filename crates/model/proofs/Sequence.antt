-- Paper 02, (c): 'what is kept is a beginning of each core's run', and 'A cut may now keep fewer transactions': of the valid set, for
-- any disk and any transactions read of it.
use Prim.Native.Nat.{ℕ, suc, ◌-◌, ◌≤◌}
use native.Mathlib.Omega.{arith}
use mathlib.Core.Path.{◌≡◌, sym, ap, ◌∙◌, subst}
use mathlib.Core.Logic.{inl, inr}
use mathlib.Core.Bool.{true, true≢false}
use mathlib.Core.List.{List, Memᴰ}
use borrow.Author.Tests.{le-ltb}
use Rattle.model.specs.Lists.{all}
use Rattle.model.specs.Bytes.{Bytes}
use Rattle.model.specs.Card.{new_name, same_name}
use Rattle.model.specs.Journal.{name_of}
use Rattle.model.specs.Shrink.{Within}
use Rattle.model.specs.Valid.{unordered, in_sequence, predecessor, required, required_of, is_in, is_met, names_met, valid_set}
use Rattle.model.specs.declared.Shape.{Shape}
use Rattle.model.specs.declared.Tail.{Tail}
use Rattle.model.specs.declared.Name.{Name}
use Rattle.model.specs.declared.CommitLayout.{CommitLayout}
use Rattle.model.specs.declared.Committed.{Committed}
use Rattle.model.proofs.Lists.{all_earlier, and_right, any_mem, mem_any}
use Rattle.model.proofs.Required.{predecessor_required}
use Rattle.model.proofs.Valid.{same_name_true, same_name_refl, valid_closed, valid_within, valid_largest, valid_names}

module _ (y : CommitLayout) (s : Shape) (d : Bytes) (tail_at : ℕ → Tail) (es : List Committed) where
  before_valid : (c n : ℕ) → (tail_at c).number ≤ n → is_in (valid_set in_sequence y s d tail_at es) (new_name c (suc n)) ≡ true
      → is_in (valid_set in_sequence y s d tail_at es) (new_name c n) ≡ true
  unfolding is_in required_of
  before_valid c n h p =
      let vs = valid_set in_sequence y s d tail_at es in
      let r = any_mem (λ (e : Committed). same_name (new_name c (suc n)) (name_of e)) vs p in
      let same : new_name c (suc n) ≡ name_of r.0 = same_name_true _ _ r.2 in
      let less : suc n - 1 ≡ n = omega arith in
      let before : predecessor (name_of r.0) ≡ new_name c n = ap predecessor (sym same) ∙ ap (new_name c) less in
      let asked : Memᴰ (new_name c n) (required_of in_sequence y s d r.0) = subst (λ (t : Name). Memᴰ t (required_of in_sequence y s d r.0)) before (predecessor_required _ _) in
      elim (valid_names in_sequence y s d tail_at es r.0 r.1 (new_name c n) asked) [
        | inl b ↦ absurd (true≢false (sym b ∙ le-ltb n (tail_at c).number h))
        | inr k ↦ mem_any (λ (e : Committed). same_name (new_name c n) (name_of e)) k.1 (subst (λ (t : Name). same_name (new_name c n) t ≡ true) k.2 (same_name_refl (new_name c n)))
      ]

  -- with a transaction every earlier one of its core from the tail number on
  pub valid_begins : (c n m : ℕ) → (tail_at c).number ≤ n → n ≤ m → is_in (valid_set in_sequence y s d tail_at es) (new_name c m) ≡ true
      → is_in (valid_set in_sequence y s d tail_at es) (new_name c n) ≡ true
  valid_begins c = all_earlier (λ n. is_in (valid_set in_sequence y s d tail_at es) (new_name c n) ≡ true) (tail_at c).number (before_valid c)

  names_alone : (vs : List Committed) (e : Committed) → names_met in_sequence y s d tail_at vs e ≡ true → names_met unordered y s d tail_at vs e ≡ true
  unfolding names_met required_of required all
  names_alone vs e h = and_right (is_met tail_at vs (predecessor (name_of e))) _ h

  -- what is valid in sequence is valid where no order is implied
  pub valid_fewer : Within (valid_set in_sequence y s d tail_at es) (valid_set unordered y s d tail_at es)
  valid_fewer =
      let vs = valid_set in_sequence y s d tail_at es in
      valid_largest unordered y s d tail_at es vs (valid_within in_sequence y s d tail_at es) (λ e m. names_alone vs e (valid_closed in_sequence y s d tail_at es e m))
