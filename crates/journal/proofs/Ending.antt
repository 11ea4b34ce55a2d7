-- The end of a journal: from where the walk stands the same end is found as from the tail.
use Prim.Native.Nat.{ℕ, suc, ◌+◌, ◌-◌, ◌≤◌, ◌<◌}
use native.Mathlib.Omega.{arith}
use mathlib.Core.Path.{◌≡◌, refl, sym, ap, ◌∙◌}
use Rattle.model.specs.Bytes.{Bytes}
use Rattle.model.specs.JournalEnds.{read_record, end_from, journal_end}
use Rattle.model.specs.declared.Shape.{Shape}
use Rattle.model.specs.declared.Tail.{Tail}
use Rattle.model.specs.declared.CommitLayout.{CommitLayout}
use Rattle.model.specs.declared.Committed.{Committed}
use Rattle.std.specs.Prelude.{None, Result, Ok, Err}
use Rattle.model.specs.declared.JournalEnd.{JournalEnd}
use Rattle.model.proofs.JournalEnds.{found_by, found_as, read_whole, end_here, end_on}
use Rattle.journal.specs.declared.walk.Walk.{Walk}
use Rattle.journal.specs.Walk.{past, walk_from}

-- an answer that is no record finds nothing
pub end_found : (x : JournalEnd) → found_by (Err x) ≡ None
unfolding found_by
end_found x = refl

-- past i records from where the walk stands the same end is found as from the tail
unfoldable pub SameEnd : CommitLayout → Shape → Bytes → ℕ → Tail → ℕ → Walk → Type 0
SameEnd y s d c t i w = end_from (s.journal - i) y s d c w.number w.at w.left ≡ journal_end y s d c t

module _ (y : CommitLayout) (s : Shape) (d : Bytes) (c : ℕ) (t : Tail) (w : Walk) where
  pub from_tail : w ≡ walk_from s t → end_from s.journal y s d c w.number w.at w.left ≡ journal_end y s d c t
  unfolding journal_end
  from_tail o = rw o refl

  pub same_first : w ≡ walk_from s t → SameEnd y s d c t 0 w
  unfolding SameEnd journal_end
  same_first o = let z : s.journal - 0 ≡ s.journal = omega arith in rw (o, z) refl

  module _ (i : ℕ) (a : SameEnd y s d c t i w) (r : Result Committed JournalEnd) (e : r ≡ read_record y s d c w.number w.at w.left) where
    pub ends_here : (x : JournalEnd) → r ≡ Err x → Err x ≡ journal_end y s d c t
    unfolding SameEnd found_by
    ends_here x h =
        sym h ∙ e
        ∙ sym (end_here y s d c w.number w.at w.left (s.journal - i) (sym (found_as y s d c w.number w.at w.left r e) ∙ ap found_by h))
        ∙ a

    pub ends_last : s.journal ≤ i → r ≡ journal_end y s d c t
    unfolding SameEnd end_from
    ends_last h = let z : s.journal - i ≡ 0 = omega arith in e ∙ (rw (z, end_from) at a)

    pub same_next : i < s.journal → (x : Committed) → r ≡ Ok x → (u : Walk) → u ≡ past s w x → SameEnd y s d c t (i + 1) u
    unfolding SameEnd
    same_next h x z u q =
        let m : s.journal - i ≡ suc (s.journal - (i + 1)) = omega arith in
        rw q (sym (ap (λ (n : ℕ). end_from n y s d c w.number w.at w.left) m
        ∙ end_on y s d c w.number w.at w.left (s.journal - (i + 1)) x (read_whole y s d c w.number w.at w.left x (sym e ∙ z)))
        ∙ a)
