-- The valid set and the journals hang on the tails of the cores that the disk has, and on no others.
use Rattle.model.proofs.Base.{ℕ, zero, suc, ◌+◌, ◌<◌, ◌≡◌, refl, sym, ap, ◌∙◌, Bool, true, ◌&&◌, List}
use Rattle.model.proofs.Base.{[], ◌∷◌, Memᴰ, mem_head, mem_tail, length, eqb, ltb, leb}
use Rattle.model.proofs.Base.{ltb-true, all, Bytes}
use Rattle.model.specs.Layout.{has_head, stamp_in, names_in, few_names, is_listable, is_commit}
use Rattle.model.specs.Journal.{name_of, journal_at, journal, journals, names_of}
use Rattle.model.specs.Shrink.{strike, shrink_in, shrink}
use Rattle.model.specs.Valid.{Order, required_of, is_met, names_met, valid_set}
use Rattle.model.specs.declared.Shape.{Shape}
use Rattle.model.specs.declared.Tail.{Tail}
use Rattle.model.specs.declared.Name.{Name}
use Rattle.model.specs.declared.CommitLayout.{CommitLayout}
use Rattle.model.specs.declared.Committed.{Committed}
use Rattle.model.proofs.Lists.{cases, and_left, and_right, all_mem, flat_map_below}
use Rattle.model.proofs.SameShrink.{select_alike}
use Rattle.model.proofs.Select.{select_mem}
use Rattle.model.proofs.Shrink.{shrink_in_settled, shrink_in_again}
use Rattle.model.proofs.Required.{required_core}
use Rattle.model.proofs.Journal.{KnownRecord}
use Rattle.model.proofs.Records.{journals_known}

-- ---- tails that agree on the cores of the disk give the same
module _ {A : Type 0} where
  all_cong : (p q : A → Bool) (xs : List A) → ((x : A) → Memᴰ x xs → p x ≡ q x) → all p xs ≡ all q xs
  unfolding all
  all_cong p q [] h = refl
  all_cong p q (x ∷ xs) h = rw (h x (mem_head refl), all_cong p q xs (λ z m. h z (mem_tail m)))

  module _ (p q : List A → A → Bool) where
    strike_cong : (es : List A) → ((ss : List A) (e : A) → Memᴰ e es → p ss e ≡ q ss e) → strike p es ≡ strike q es
    unfolding strike
    strike_cong es h = select_alike (p es) (q es) es (h es)

    strike_within : (es : List A) (e : A) → Memᴰ e (strike p es) → Memᴰ e es
    unfolding strike
    strike_within es e m = (select_mem (p es) es e m).0

    shrink_in_cong : (n : ℕ) (es : List A) → ((ss : List A) (e : A) → Memᴰ e es → p ss e ≡ q ss e) → shrink_in n p es ≡ shrink_in n q es
    shrink_in_cong zero es h = unfold shrink_in in refl
    shrink_in_cong (suc n) es h =
        let z : strike p es ≡ strike q es = strike_cong es h in
        cases (eqb (length (strike p es)) (length es))
        (λ t. shrink_in_settled p n es t ∙ sym (shrink_in_settled q n es (rw z at t)))
        (λ t.
        shrink_in_again p n es t
        ∙ shrink_in_cong n (strike p es) (λ ss e m. h ss e (strike_within es e m))
        ∙ ap (shrink_in n q) z
        ∙ sym (shrink_in_again q n es (rw z at t)))

    shrink_cong : (es : List A) → ((ss : List A) (e : A) → Memᴰ e es → p ss e ≡ q ss e) → shrink p es ≡ shrink q es
    unfolding shrink
    shrink_cong es h = shrink_in_cong (length es) es h

-- each that a record read names is of a core that the disk has
named_core : (y : CommitLayout) (s : Shape) (d : Bytes) (c k : ℕ) (e : Committed) → KnownRecord y s d c k e → (n : Name) → Memᴰ n (names_of y s d e) → n.core < s.cores
unfolding names_of is_commit is_listable
named_core y s d c k e r n m =
    let f = journal_at s d c (e.position + (e.count + 1)) in
    let a : all (is_listable s) (names_in y f) ≡ true = and_right (has_head 2 k f && leb 1 (stamp_in f) && few_names y f) (all (is_listable s) (names_in y f)) r.commit in
    let g : journal_at s d e.core (e.position + (e.count + 1)) ≡ f = rw r.core in
    ltb-true n.core s.cores (and_left (ltb n.core s.cores) _ (all_mem (is_listable s) (names_in y f) a (rw g at m)))

module _ (o : Order) (y : CommitLayout) (s : Shape) (d : Bytes) (t₁ t₂ : ℕ → Tail) (same : (c : ℕ) → c < s.cores → (t₁ c).number ≡ (t₂ c).number) where
  names_tails : (es : List Committed) (e : Committed) → ((n : Name) → Memᴰ n (required_of o y s d e) → n.core < s.cores) → names_met o y s d t₁ es e ≡ names_met o y s d t₂ es e
  unfolding names_met is_met
  names_tails es e h = all_cong (is_met t₁ es) (is_met t₂ es) (required_of o y s d e) (λ n m. rw (same n.core (h n m)))

  pub valid_tails : (t : ℕ → Tail) (most : ℕ → ℕ) → valid_set o y s d t₁ (journals y s d t most) ≡ valid_set o y s d t₂ (journals y s d t most)
  unfolding valid_set
  valid_tails t most =
      shrink_cong (names_met o y s d t₁) (names_met o y s d t₂) (journals y s d t most)
      (λ ss e m.
      let k = journals_known y s d t most e m in
      names_tails ss e
      (unfold required_of in required_core o (name_of e) (names_of y s d e) s.cores k.0 (named_core y s d e.core ((t e.core).number + k.1.0) e k.1.1)))

pub journals_tails : (y : CommitLayout) (s : Shape) (d : Bytes) (t₁ t₂ : ℕ → Tail) (m₁ m₂ : ℕ → ℕ)
    → ((c : ℕ) → c < s.cores → journal y s d c (t₁ c) (m₁ c) ≡ journal y s d c (t₂ c) (m₂ c)) → journals y s d t₁ m₁ ≡ journals y s d t₂ m₂
unfolding journals
journals_tails y s d t₁ t₂ m₁ m₂ h = flat_map_below _ _ s.cores h
