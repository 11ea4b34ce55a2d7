-- What CHECKPOINT and RETIRE both ask, stage by stage: 31 where none is committed, then what is asked of the oldest transaction. A command
-- that asks one condition more is refused by that number, by its own, or carried out.
use Rattle.model.proofs.Base.{ℕ, suc, ◌+◌, ◌-◌, ◌%◌, ◌≤◌, ◌<◌, min, arith, ◌≡◌, refl, sym, ap, subst, ◌∙◌, Bool, true, false, cond}
use Rattle.model.proofs.Base.{List, [], ◌∷◌, length, ltb, eqb, ne_eqb, eq-eqb, eqb-true, eqb-false, Bytes}
use Rattle.model.specs.Card.{shape_of, tail_of, core_of, committed_count}
use Rattle.model.specs.Journal.{records_from, journal}
use Rattle.model.specs.Valid.{in_sequence}
use Rattle.model.specs.Command.{World, Outcome, refusal, unless}
use Rattle.model.specs.Checkpoint.{committed_of, oldest, found_conditions, committed_conditions, oldest_conditions, images_left}
use Rattle.model.specs.Limits.{max_number}
use Rattle.model.proofs.Lists.{cases}
use Rattle.model.proofs.Journal.{records_miss, records_hit, descriptor_number}
use Rattle.cells.specs.Answer.{first_of, outcome_in, Meets}
use Rattle.cells.specs.Cells.{world, world_in}
use Rattle.cells.specs.Changes.{Frame}
use Rattle.cells.proofs.RefusalLaws.{first_hit, first_pass, refusal_joined, refusal_next, refusal_one}
use Rattle.cells.proofs.EntryLaws.{entry, entry_hit, entry_pass, Entered, entered}
use Rattle.cells.proofs.MeetLaws.{meets_refused, meets_handed, meets_done}
use Rattle.journal.specs.declared.extents.Extent.{Extent}
use Rattle.oldest.specs.Oldest.{count_at, oldest_at, ReadNow, oldest_in, IsRead, IsOldest, OldestFound, OldestAsked}
use Rattle.oldest.proofs.CardLaws.{core_low}
use Rattle.oldest.proofs.CountLaws.{oldest_same}
use Rattle.oldest.proofs.OldestLaws.{whole_known, at_tail, at_tail_lem, tail_known, was_read}
use Rattle.model.specs.declared.Card.{Card}
use Rattle.model.specs.declared.CommitLayout.TheVariants.{Numbers}
use Rattle.model.specs.declared.Committed.{Committed}
use Rattle.std.specs.Prelude.{Option, Some, None, Result, Ok, Err}
use Rattle.model.specs.Refusal.{number_of}
use Rattle.model.specs.declared.Refusal.{Refusal}
use Rattle.model.specs.declared.Refusal.TheVariants.{NoneCommitted}
use Rattle.model.proofs.RefusalNumbers.{number_not_0}

-- ---- the oldest transaction
some_there : (e : Committed) (es : List Committed) → eqb (length (e ∷ es)) 0 ≡ false
some_there e es = ne_eqb (suc (length es)) 0 (omega arith)

module _ (x : Card) (d : Bytes) (c : ℕ) where
  module _ (e : Committed) (h : oldest_at x d c ≡ Some e) where
    counted_one : eqb (count_at x c) 0 ≡ false
    unfolding oldest_at
    counted_one = (whole_known (eqb (count_at x c) 0) (at_tail x d c) e h).0

    low_number : e.number ≤ max_number
    low_number = let k = tail_known x d c e h in omega (arith, k.number, descriptor_number _ _ _ k.descriptor)

    -- those after it
    abbrev after : List Committed
    after =
        records_from (committed_count x c - 1) Numbers (shape_of x) d c ((tail_of x c).number + 1)
        (((tail_of x c).position + (e.count + 2)) % (shape_of x).journal) ((shape_of x).journal - (e.count + 2))

    committed_first : (m : Bytes) → committed_of (world x d m) c ≡ e ∷ after
    unfolding committed_of journal count_at
    committed_first m =
        let n : min (committed_count x c) 12 ≡ 0 → ⊥ = eqb-false _ _ counted_one in
        let z : committed_count x c ≡ suc (committed_count x c - 1) = omega arith in
        ap (λ (n : ℕ). records_from n Numbers (shape_of x) d c (tail_of x c).number (tail_of x c).position (shape_of x).journal) z
        ∙ records_hit Numbers (shape_of x) d c (tail_of x c).number (tail_of x c).position (shape_of x).journal (committed_count x c - 1) e (at_tail_lem x d c e h)

    is_oldest : (m : Bytes) → oldest (committed_of (world x d m) c) ≡ e
    unfolding oldest
    is_oldest m = rw (committed_first m)

    is_committed_lem : (m : Bytes) → eqb (length (committed_of (world x d m) c)) 0 ≡ false
    is_committed_lem m = ap (λ (es : List Committed). eqb (length es) 0) (committed_first m) ∙ some_there e after

    found_there : length d ≡ 32896 → c < (shape_of x).cores → (m : Bytes) → OldestFound c (world x d m) e
    found_there n l m = record { core = core_low x c l; first = is_oldest m; read = was_read x d c e h n l; number = low_number }

  no_oldest : oldest_at x d c ≡ None → (m : Bytes) → committed_of (world x d m) c ≡ []
  unfolding committed_of journal oldest_at count_at records_from
  no_oldest h m =
      cases (eqb (min (committed_count x c) 12) 0)
      (λ t.
      let n : min (committed_count x c) 12 ≡ 0 = eqb-true _ _ t in
      let z : committed_count x c ≡ 0 = omega arith in
      rw (z, records_from))
      (λ t. records_miss Numbers (shape_of x) d c (tail_of x c).number (tail_of x c).position (shape_of x).journal (committed_count x c) (rw t at h))

-- ---- a refusal, and one that `?` hands on
refused_asked : (n c : ℕ) (w : World) (e : Refusal) → number_of e ≡ n → OldestAsked n c w (Err e)
refused_asked n c w e q = record { number = q; found = λ t z. absurd (cc) }

handed_asked : (n c : ℕ) (w : World) (e : Refusal) → number_of e ≡ n → (r : Result Committed Refusal) → r ≡ Err e → OldestAsked n c w r
handed_asked n c w e q r h = subst (OldestAsked n c w) (sym h) (refused_asked n c w e q)

-- ---- once the core is known
stages : (c : ℕ) (w : World)
    → refusal (committed_conditions in_sequence c w []) ≡ first_of (cond (eqb (length (committed_of w c)) 0) 31 0) (refusal (found_conditions in_sequence (oldest (committed_of w c)) w []))
unfolding committed_conditions
stages c w = refusal_next (eqb (length (committed_of w c)) 0) 31 (found_conditions in_sequence (oldest (committed_of w c)) w []) (omega arith)

none_refuses : (x : Card) (d : Bytes) (c : ℕ) → oldest_at x d c ≡ None → (m : Bytes) → 31 ≡ refusal (committed_conditions in_sequence c (world x d m) [])
none_refuses x d c z m =
    let k : ◌≡◌ {A = ℕ} 31 (cond (eqb (length (committed_of (world x d m) c)) 0) 31 0) = rw (no_oldest x d c z m) in
    first_hit 31 (cond (eqb (length (committed_of (world x d m) c)) 0) 31 0) _ k (omega arith) ∙ sym (stages c (world x d m))

module _ (x : Card) (d : Bytes) (c : ℕ) (h : c < (shape_of x).cores) (xs : List Extent) (start count : List ℕ) (r : ReadNow x d xs start count)
    (f : Option Committed) (q : f ≡ oldest_in x xs start count c) where
  at_first : f ≡ oldest_at x d c
  at_first = q ∙ oldest_same x xs start count c d r h

  pub none_asked : f ≡ None → (m : Bytes) → OldestAsked (refusal (committed_conditions in_sequence c (world x d m) [])) c (world x d m) (Err NoneCommitted)
  none_asked z m = refused_asked _ c (world x d m) NoneCommitted (none_refuses x d c (sym at_first ∙ z) m)

  module _ (t : Committed) (z : f ≡ Some t) (long : length d ≡ 32896) where
    first_whole : oldest_at x d c ≡ Some t
    first_whole = sym at_first ∙ z

    pub oldest_found : IsOldest x d c xs start count t
    oldest_found = record { long = long; core = h; read = r; first = first_whole }

    last_stages : (m : Bytes) → refusal (found_conditions in_sequence t (world x d m) []) ≡ refusal (committed_conditions in_sequence c (world x d m) [])
    last_stages m =
        let u : ◌≡◌ {A = ℕ} 0 (cond (eqb (length (committed_of (world x d m) c)) 0) 31 0) = rw (is_committed_lem x d c t first_whole m) in
        let a : refusal (found_conditions in_sequence t (world x d m) []) ≡ refusal (found_conditions in_sequence (oldest (committed_of (world x d m) c)) (world x d m) []) =
        rw (is_oldest x d c t first_whole m) in
        first_pass 0 _ (cond (eqb (length (committed_of (world x d m) c)) 0) 31 0) _ u refl a ∙ sym (stages c (world x d m))

    pub found_refused : (e : Refusal) → ((m : Bytes) → number_of e ≡ refusal (found_conditions in_sequence t (world x d m) []))
        → (a : Result Committed Refusal) → a ≡ Err e
        → (m : Bytes) → OldestAsked (refusal (committed_conditions in_sequence c (world x d m) [])) c (world x d m) a
    found_refused e q a y m = handed_asked _ c (world x d m) e (q m ∙ last_stages m) a y

    pub found_asked : ((m : Bytes) → 0 ≡ refusal (found_conditions in_sequence t (world x d m) []))
        → (m : Bytes) → OldestAsked (refusal (committed_conditions in_sequence c (world x d m) [])) c (world x d m) (Ok t)
    found_asked e m =
        record {
          number = e m ∙ last_stages m;
          found = λ u q. let y : t ≡ u = cc in subst (OldestFound c (world x d m)) y (found_there x d c t first_whole long h m);
        }

-- ---- of any core
module _ (x : Card) (c : ℕ) (d m : Bytes) where
  abbrev asked_all : ℕ
  asked_all = refusal (oldest_conditions in_sequence c (world x d m) [])

  pub first_asked : (e : Refusal) → number_of e ≡ refusal (entry c (world x d m)) → (a : Result Committed Refusal) → a ≡ Err e
      → OldestAsked asked_all c (world x d m) a
  first_asked e q a h = handed_asked _ c (world x d m) e (entry_hit c (world x d m) _ {A = Committed} (Err e) e q refl) a h

  module _ (e : 0 ≡ refusal (entry c (world x d m))) where
    first_passed : Entered x c d m
    first_passed = entered x c d m [] tt (sym e)

    pub passed_few : c < 8
    passed_few = first_passed.few

    pub passed_core : c < (shape_of x).cores
    passed_core = first_passed.core

    pub passed_long : length d ≡ 32896
    passed_long = first_passed.disk

    passed_stages : refusal (committed_conditions in_sequence c (world x d m) []) ≡ asked_all
    passed_stages = entry_pass c (world x d m) (committed_conditions in_sequence c (world x d m) []) e _ refl

    -- b is the disk, as it was lent on
    pub read_asked : (b : Bytes) → b ≡ d → (a : Result Committed Refusal) → ((m : Bytes) → OldestAsked (refusal (committed_conditions in_sequence c (world x b m) [])) c (world x b m) a)
        → OldestAsked asked_all c (world x d m) a
    read_asked b q a o =
        let r = subst (λ (d : Bytes). OldestAsked (refusal (committed_conditions in_sequence c (world x d m) [])) c (world x d m) a) q (o m) in
        record { number = r.number ∙ passed_stages; found = r.found }

    -- where the card counts none, there is none
    pub counted_none : (k : ℕ) → k ≡ count_at x c → k ≡ 0 → OldestAsked asked_all c (world x d m) (Err NoneCommitted)
    unfolding oldest_at
    counted_none k q z = refused_asked _ c (world x d m) NoneCommitted (none_refuses x d c (rw (eq-eqb (count_at x c) 0 (sym q ∙ z))) m ∙ passed_stages)

-- ---- a command that asks one condition more, for the refusal p
module _ (v : List ℕ) (c : ℕ) (d m : Bytes) (size : length v ≡ 423) (t : Bool) (p : Refusal) (done : Outcome World) where
  abbrev asked_both : ℕ
  asked_both = refusal (oldest_conditions in_sequence c (world_in v d m) [])

  abbrev asked_then : List (Bool × ℕ)
  asked_then = oldest_conditions in_sequence c (world_in v d m) ((t, number_of p) ∷ [])

  then_stages : refusal asked_then ≡ first_of asked_both (cond t (number_of p) 0)
  unfolding committed_conditions found_conditions
  then_stages =
      refusal_joined (oldest_conditions in_sequence c (world_in v d m) []) ((t, number_of p) ∷ [])
      (omega arith, (omega arith, (omega arith, (omega arith, (omega arith, (omega arith, (omega arith, tt)))))))
      ∙ rw refusal_one

  pub both_refused : (e : Refusal) → OldestAsked asked_both c (world_in v d m) (Err e) → (r : Result ℕ Refusal) → r ≡ Err e
      → Meets (unless asked_then (world_in v d m) done) v v d m r
  both_refused e a r h =
      meets_handed asked_then v d m done size e (first_hit (number_of e) _ _ a.number (number_not_0 e) ∙ sym then_stages) r h

  module _ (e : Committed) (a : OldestAsked asked_both c (world_in v d m) (Ok e)) where
    own_stage : (k : ℕ) → k ≡ cond t (number_of p) 0 → k ≡ refusal asked_then
    own_stage k q = first_pass 0 k _ _ a.number refl q ∙ sym then_stages

    pub own_refused : t ≡ true → Meets (unless asked_then (world_in v d m) done) v v d m (Err p)
    own_refused q = meets_refused asked_then v d m done size p (own_stage (number_of p) (rw q))

    pub none_refused : t ≡ false → (w : List ℕ) (k : Bytes) → outcome_in (Ok 1) w k m ≡ done → Frame v w 0 423
        → Meets (unless asked_then (world_in v d m) done) v w k m (Ok 1)
    none_refused q w k o f = meets_done asked_then v d m done size (own_stage 0 (rw q)) w k m 1 o 0 423 f

-- ---- what is found with it
module _ (n c : ℕ) (x : Card) (d m : Bytes) (e : Committed) (a : OldestAsked n c (world x d m) (Ok e)) where
  found_with : OldestFound c (world x d m) e
  found_with = a.found e refl

  pub found_core : c < 8
  found_core = found_with.core

  pub found_read : IsRead (shape_of x) d e
  found_read = found_with.read

  pub found_long : length d ≡ 32896
  found_long = found_with.read.long

  pub found_number : e.number ≤ max_number
  found_number = found_with.number

  -- whether its images are left, by the count of those stored home
  pub found_left : (k : ℕ) → k ≡ (core_of x c).homed → images_left c (world x d m) ≡ ltb k e.count
  found_left k q = rw (found_with.first, q)
