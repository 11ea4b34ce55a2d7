-- The words of the shape are the shape that is checked; the fields of a master are refused where its shape is out of range, else each
-- tail decides. A tail of a core that the disk has is the one in the block, and its position fits a byte.
use Rattle.model.proofs.Base.{ℕ, ◌+◌, ◌*◌, ◌≤◌, ◌<◌, arith, ◌≡◌, refl, sym, ap, ◌∙◌, Bool, true, false, cond, ◌&&◌, eqb, eq-eqb}
use Rattle.model.proofs.Base.{lt-ltb, le-ltb, below, all, Bytes}
use Rattle.std.specs.Prelude.{Option, Some, None}
use Rattle.model.specs.Bytes.{be4}
use Rattle.model.specs.Shape.{in_range, checked}
use Rattle.model.specs.Card.{new_tail}
use Rattle.model.specs.Layout.{mark, shape_in, tail_in, is_tail, has_master_fields, is_master, pair_at}
use Rattle.model.specs.declared.Shape.{Shape}
use Rattle.model.proofs.Lists.{and_both, and_left, and_right, all_mem, below_mem}
use Rattle.model.proofs.Limits.{InRange, range_test}
use Rattle.model.proofs.Encoding.{tail_limits}
use Rattle.model.proofs.OneStore.{master_limits}
use Rattle.layout.specs.Loops.{every}
use Rattle.layout.proofs.Tests.{fails, and_last, and_here, and_before}
use Rattle.master_block.specs.Tails.{tail_or_none}

-- ---- shape and test
pub shape_read : (m : Bytes) (r : Option Shape) (c b j : ℕ) → r ≡ checked c b j → c ≡ be4 m 12 → b ≡ be4 m 16 → j ≡ be4 m 20 → r ≡ checked (be4 m 12) (be4 m 16) (be4 m 20)
shape_read m r c b j e p q h = e ∙ rw (p, q, h)

is_marked : Bytes → Bool
is_marked m = eqb (be4 m 0) mark && eqb (be4 m 4) 4

all_tails : Bytes → Bool
all_tails m = let s = shape_in m in all (λ (c : ℕ). is_tail s (tail_in m c)) (below s.cores)

no_shape : (t : Bool) (s : Shape) → cond t (Some s) None ≡ None → t ≡ false
no_shape true s e = let z : ◌≡◌ {A = ℕ} 0 1 = cc in absurd (omega arith)
no_shape false s e = refl

a_shape : (t : Bool) (s z : Shape) → cond t (Some s) None ≡ Some z → (t ≡ true) × (s ≡ z)
a_shape true s z e = (refl, (cc))
a_shape false s z e = let y : ◌≡◌ {A = ℕ} 0 1 = cc in absurd (omega arith)

module _ (m : Bytes) (f : Option Shape) (e : f ≡ checked (be4 m 12) (be4 m 16) (be4 m 20)) where
  pub master_no : f ≡ None → false ≡ has_master_fields m
  unfolding has_master_fields checked shape_in is_marked all_tails
  master_no h =
      let t = in_range (be4 m 12) (be4 m 16) (be4 m 20) in
      let n : t ≡ false = no_shape t (shape_in m) (sym e ∙ h) in
      fails (has_master_fields m) (and_before (is_marked m && t) (all_tails m) (and_here (is_marked m) t n))

  module _ (s : Shape) (h : f ≡ Some s) where
    in_range_lem : (in_range (be4 m 12) (be4 m 16) (be4 m 20) ≡ true) × (shape_in m ≡ s)
    unfolding checked shape_in
    in_range_lem = a_shape _ _ s (sym e ∙ h)

    pub master_few : s.cores ≤ 8
    unfolding shape_in
    master_few = let r : InRange (shape_in m) = range_test (shape_in m) in_range_lem.0 in omega (arith, r.few_cores, ap (λ (z : Shape). z.cores) in_range_lem.1)

    pub master_yes : (x y k : ℕ) (r : Bool) → x ≡ be4 m 0 → x ≡ mark → y ≡ be4 m 4 → y ≡ k → k ≡ 4 → r ≡ every s.cores (λ (c : ℕ). is_tail s (tail_in m c)) → r ≡ has_master_fields m
    unfolding has_master_fields shape_in every
    master_yes x y k r p a q b o t =
        t
        ∙ rw (← in_range_lem.1)
        (and_last _ _ _ (and_both (and_both (eq-eqb (be4 m 0) mark (sym p ∙ a)) (eq-eqb (be4 m 4) 4 (sym q ∙ b ∙ o))) in_range_lem.0) refl)

-- ---- tails
module _ (m : Bytes) (c x : ℕ) (e : x ≡ be4 m 12) where
  pub tail_none : x ≤ c → new_tail 0 0 ≡ tail_or_none m c
  unfolding tail_or_none shape_in
  tail_none h = rw (le-ltb c (be4 m 12) (omega arith))

  module _ (p : ℕ) (q : p ≡ be4 m (24 + 8 * c + 4)) (h : c < x) where
    pub tail_some : (k : ℕ) → k ≡ be4 m (24 + 8 * c) → new_tail k p ≡ tail_or_none m c
    unfolding tail_or_none shape_in tail_in pair_at
    tail_some k r = rw (lt-ltb c (be4 m 12) (omega arith), q, r)

    -- a master's positions are below J, so each fits a byte
    pub tail_small : is_master m ≡ true → p < 256
    unfolding is_master has_master_fields shape_in tail_in pair_at is_marked all_tails
    tail_small t =
        let s = shape_in m in
        let l : all_tails m ≡ true = and_right (is_marked m && in_range s.cores s.blocks s.journal) (all_tails m) (and_left (has_master_fields m) _ t) in
        let i : is_tail s (tail_in m c) ≡ true = all_mem (λ (c : ℕ). is_tail s (tail_in m c)) (below s.cores) l (below_mem s.cores c (omega arith)) in
        omega (arith, (master_limits m t).short, (tail_limits s (tail_in m c) i).2)
