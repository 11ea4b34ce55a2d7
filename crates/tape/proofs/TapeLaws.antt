-- A command of the bytes read takes one of them at least. Bytes passed over are those that lie in front.
use Rattle.std.proofs.Common.{ℕ, zero, suc, ◌+◌, ◌-◌, ◌<◌, ◌≤◌, ◌≡◌, [], ◌∷◌, false, length, take, drop, refl, sym, ap, subst, ◌∙◌, arith, length-drop, length-take}
use Rattle.std.proofs.Math.Seq.{drop-drop}
use Rattle.std.proofs.lemmas.List.{drop-take}
use mathlib.Core.Bool.{false≢true}
use Rattle.model.specs.Bytes.{Bytes}
use Rattle.model.specs.Tape.{is_early, read_at, next_offset}
use Rattle.model.proofs.Tape.{next_past}
use Rattle.tape.specs.Left.{LiesBehind, IsLeft}

some_left : (s : Bytes) → false ≡ is_early (read_at s 0) → 0 < length s
unfolding read_at
some_left [] h = absurd (false≢true h)
some_left (x ∷ xs) h = omega arith

pub shorter : (s t : Bytes) → t ≡ drop (next_offset s 0) s → false ≡ is_early (read_at s 0) → length t < length s
shorter s t e h = let l : 0 < length s = some_left s h in rw e (omega (arith, length-drop (next_offset s 0) s, next_past s 0 l))

pub passed_over : (b s : Bytes) (from n to : ℕ) → take (to - from) (drop from b) ≡ s → from ≤ to → n ≤ length s → take (to - (from + n)) (drop (from + n) b) ≡ drop n s
passed_over b s from n to e h l =
    let m : n ≤ to - from = omega (arith, simp length-take at (ap length e)) in
    let k : to - from ≡ n + (to - (from + n)) = omega arith in
    sym (ap (drop n) (sym e ∙ ap (λ (i : ℕ). take i (drop from b)) k) ∙ drop-take n (to - (from + n)) (drop from b) ∙ ap (take (to - (from + n))) (drop-drop n from b))

-- ---- what is left
behind_more : (n : ℕ) (s t : Bytes) → LiesBehind n s t → is_early (read_at t 0) ≡ false → LiesBehind (suc n) s (drop (next_offset t 0) t)
behind_more zero s t e h = (ap (λ (b : Bytes). is_early (read_at b 0)) (sym e) ∙ h, ap (λ (b : Bytes). drop (next_offset b 0) b) e)
behind_more (suc n) s t e h = (e.0, behind_more n (drop (next_offset s 0) s) t e.1 h)

pub left_all : (s : Bytes) → IsLeft s s
left_all s = (0, refl)

module _ (s t u : Bytes) (e : IsLeft t s) where
  pub left_passed : u ≡ drop (next_offset t 0) t → false ≡ is_early (read_at t 0) → IsLeft u s
  left_passed h q = (suc e.0, subst (λ (b : Bytes). LiesBehind (suc e.0) s b) (sym h) (behind_more e.0 s t e.1 (sym q)))

  pub left_kept : u ≡ t → IsLeft u s
  left_kept h = (e.0, subst (λ (b : Bytes). LiesBehind e.0 s b) (sym h) e.1)
