-- What the loops of a round find: one core's count lowered, those of all cores, how many count in all; and the tail numbers.
use Rattle.model.proofs.Base.{ℕ, ◌+◌, ◌*◌, ◌≤◌, ◌<◌, arith, dec_lt, add-one, ◌≡◌, refl, sym, ap, ◌∙◌, Bool, true, false, not, List, length, get_or, set, length-set, length-map, map, ext_get_or}
use Rattle.model.proofs.Base.{get_or-set_same, get_or-set_other, not-true, not-false, below, Bytes}
use borrow.Author.Rules.{rules}
use Rattle.model.specs.Lists.{total}
use Rattle.model.specs.declared.Shape.{Shape}
use Rattle.model.specs.declared.Tail.{Tail}
use Rattle.model.specs.declared.CommitLayout.{CommitLayout}
use Rattle.model.proofs.Limits.{InRange}
use Rattle.model.proofs.Totals.{total_last}
use Rattle.model.proofs.Lists.{get_or_map_below}
use Rattle.model.proofs.Lists.{get_or_map_below}
use Rattle.layout.specs.Loops.{every}
use Rattle.layout.proofs.Loops.{every_none, every_more}
use Rattle.journal.specs.declared.extents.Extent.{Extent}
use Rattle.journal.specs.Records.{tail_for, numbers_of, extent_at}
use Rattle.valid.specs.Sets.{record_met, LoweredTo, Lowered, total_count}

-- ---- one core: those passed are met
module _ (y : CommitLayout) (s : Shape) (d : Bytes) (ks : List ℕ) (xs : List Extent) (count : List ℕ) (c a j : ℕ) where
  abbrev at_place : ℕ → Bool
  at_place j = record_met y s d ks count c (extent_at xs (a + j))

  abbrev pub RecordsMet : Type 0
  RecordsMet = every j at_place ≡ true

  pub met_more : RecordsMet → (r : Bool) → r ≡ at_place j → not r ≡ false → every (j + 1) at_place ≡ true
  met_more w r e h = every_more at_place j w (sym e ∙ not-false r h)

  pub lowered_out : RecordsMet → (n : ℕ) → j < n → (r : Bool) → r ≡ at_place j → not r ≡ true → LoweredTo y s d ks xs count c a n j
  unfolding LoweredTo
  lowered_out w n l r e h = record { few = omega arith; met = w; unmet = λ g. sym e ∙ not-true r h }

  pub lowered_end : RecordsMet → (n : ℕ) → n ≤ j → j ≤ n → LoweredTo y s d ks xs count c a n n
  unfolding LoweredTo
  lowered_end w n h l = let e : j ≡ n = omega arith in record { few = omega arith; met = rw e at w; unmet = λ g. absurd (omega arith) }

pub ruleset one_lowered = (rules, every_none, met_more, lowered_out, lowered_end)

-- ---- all cores: those passed have their counts
module _ (y : CommitLayout) (s : Shape) (d : Bytes) (ks : List ℕ) (xs : List Extent) (start count : List ℕ) where
  pub record LoweredBelow (next : List ℕ) (c : ℕ) : Type 0 where
    pub size : length next ≡ 8
    pub done : (i : ℕ) → i < c → LoweredTo y s d ks xs count i (get_or start i 0) (get_or count i 0) (get_or next i 0)

  pub lowered_none : (next : List ℕ) → length next ≡ 8 → LoweredBelow next 0
  lowered_none next h = record { size = h; done = λ i l. absurd (omega arith) }

  pub lowered_more : (next : List ℕ) (c m : ℕ) → LoweredBelow next c → LoweredTo y s d ks xs count c (get_or start c 0) (get_or count c 0) m → c < s.cores → InRange s
      → LoweredBelow (set next c m) (c + 1)
  lowered_more next c m w e h l =
      record {
        size = length-set next c m ∙ w.size;
        done = λ i g. elim (dec_lt i c) [
          | yes b ↦ rw (get_or-set_other next c i m 0 (omega arith)) (w.done i b)
          | no b ↦ (let z : i ≡ c = omega arith in rw (z, get_or-set_same next c m 0 (omega (arith, w.size, l.few_cores))) e)
        ];
      }

  pub lowered_all : (next : List ℕ) (c : ℕ) → LoweredBelow next c → s.cores ≤ c → Lowered y s d ks xs start count next
  unfolding Lowered
  lowered_all next c w h i g = w.done i (omega arith)

pub ruleset all_lowered = (rules, lowered_none, lowered_more, lowered_all)

-- ---- how many count in all
module _ (count : List ℕ) where
  -- n is the sum of those passed; it fits, since a core has a byte for its count
  pub record TotalBelow (n c : ℕ) : Type 0 where
    pub low : n ≤ 255 * c
    pub sum : n ≡ total (λ (c : ℕ). get_or count c 0) (below c)

  pub total_none : TotalBelow 0 0
  unfolding below total
  total_none = record { low = omega arith; sum = refl }

  pub total_more : (n c x : ℕ) → TotalBelow n c → x ≡ get_or count c 0 → x < 256 → TotalBelow (n + x) (c + 1)
  unfolding below
  total_more n c x w e b =
      record {
        low = omega (arith, w.low);
        sum = rw (add-one, below, total_last (λ (c : ℕ). get_or count c 0) (below c) c, ← e, ← w.sum);
      }

  pub total_fits : (s : Shape) (n c x : ℕ) → TotalBelow n c → InRange s → c < s.cores → x < 256 → n + x < 18446744073709551616
  total_fits s n c x w l h b = omega (arith, w.low, l.few_cores)

  pub total_all : (s : Shape) (n c : ℕ) → TotalBelow n c → s.cores ≤ c → c ≤ s.cores → n ≡ total_count s count
  unfolding total_count
  total_all s n c w h l = let e : c ≡ s.cores = omega arith in w.sum ∙ ap (λ (i : ℕ). total (λ (c : ℕ). get_or count c 0) (below i)) e

pub ruleset all_counted = (rules, total_none, total_more, total_all)

-- ---- the tail numbers
pub all_numbers : (ts : List Tail) (ks : List ℕ) → length ks ≡ 8 → ((i : ℕ) → i < 8 → get_or ks i 0 ≡ (tail_for ts i).number) → ks ≡ numbers_of ts
unfolding numbers_of below
all_numbers ts ks l h =
    ext_get_or 0 ks (map (λ (c : ℕ). (tail_for ts c).number) (below 8)) (l ∙ sym (length-map (below 8) (λ (c : ℕ). (tail_for ts c).number)))
    (λ i g. h i (omega arith) ∙ sym (get_or_map_below (λ (c : ℕ). (tail_for ts c).number) 8 i 0 (omega arith)))
