-- A round keeps the valid set, and where no count falls it is the valid set: so the recursion over counts is shrinking.
use Rattle.model.proofs.Base.{ℕ, ◌+◌, ◌-◌, ◌≤◌, ◌<◌, arith, dec_lt, ◌≡◌, refl, sym, ap, ap₂, ◌∙◌, subst, Bool, true, ◌&&◌, true≢false, List, [], ◌∷◌, Memᴰ, length, get_or}
use Rattle.model.proofs.Base.{eq-eqb, select, Bytes}
use Rattle.model.specs.Card.{new_name, same_name}
use Rattle.model.specs.Journal.{name_of, journal_at}
use Rattle.model.specs.Shrink.{AllStay, Within, strike, shrink_in, shrink}
use Rattle.model.specs.Valid.{in_sequence, is_in, names_met, valid_set}
use Rattle.model.specs.declared.Shape.{Shape}
use Rattle.model.specs.declared.Tail.{Tail}
use Rattle.model.specs.declared.Name.{Name}
use Rattle.model.specs.declared.CommitLayout.{CommitLayout}
use Rattle.model.specs.declared.Committed.{Committed}
use Rattle.model.proofs.Lists.{and_both, and_right, all_mem, any_mem, mem_any, below_mem}
use Rattle.model.proofs.Limits.{InRange}
use Rattle.model.proofs.Select.{select_mem, select_same}
use Rattle.model.proofs.Shrink.{Monotone, shrink_in_settled, shrink_closed, shrink_within, shrink_largest}
use Rattle.model.proofs.SameShrink.{SelectedOf, select_twice, selected_same, shrink_selected}
use Rattle.model.proofs.Valid.{same_name_true, same_name_refl, names_met_monotone, valid_closed, valid_within}
use Rattle.model.proofs.Sequence.{valid_begins}
use Rattle.layout.specs.Loops.{every}
use Rattle.journal.specs.declared.extents.Extent.{Extent}
use Rattle.journal.specs.Records.{SamePlaces, numbers_of, extent_at, records_in, RunsTested}
use Rattle.valid.specs.declared.shrinking.Round.{Round}
use Rattle.valid.specs.Rounds.{counted, CountsAlone}
use Rattle.valid.specs.Sets.{tail_number, numbered, count_met, commit_met, record_met, Begins, LoweredTo, Lowered, total_count}
use Rattle.valid.proofs.Sets.{record_of, record_name, mem_records, records_mem, named_record, tail_number_lem, total_lower, total_equal, records_lower, records_equal}
use Rattle.valid.proofs.Names.{record_stays, before_met}

-- ---- any test
module _ {A : Type 0} where
  selected_twice : (es ss ts : List A) → SelectedOf ss es → SelectedOf ts ss → SelectedOf ts es
  selected_twice es ss ts p q = ((λ x. p.0 x && q.0 x), q.1 ∙ ap (select q.0) p.1 ∙ select_twice p.0 q.0 es)

  selected_within : (es ss : List A) → SelectedOf ss es → Within ss es
  selected_within es ss p e m = (select_mem p.0 es e (subst (λ (l : List A). Memᴰ e l) p.1 m)).0

module _ {A : Type 0} (stays : List A → A → Bool) where
  -- a selection that has all that shrinking leaves is shrunk to the same
  shrink_selection : Monotone stays → (es ss : List A) → SelectedOf ss es → Within (shrink stays es) ss → shrink stays ss ≡ shrink stays es
  shrink_selection mono es ss p w =
      selected_same es (shrink stays ss) (shrink stays es) (selected_twice es ss (shrink stays ss) p (shrink_selected stays ss)) (shrink_selected stays es)
      (shrink_largest stays mono es (shrink stays ss) (λ e m. selected_within es ss p e (shrink_within stays ss e m)) (shrink_closed stays ss))
      (shrink_largest stays mono ss (shrink stays es) w (shrink_closed stays es))

  -- where all meet the test, none goes
  shrink_none : (es : List A) → AllStay stays es → es ≡ shrink stays es
  unfolding shrink shrink_in strike
  shrink_none [] h = refl
  shrink_none (x ∷ es) h = sym (shrink_in_settled stays (length es) (x ∷ es) (eq-eqb _ _ (ap length (select_same (stays (x ∷ es)) (x ∷ es) h))))

-- ---- a round
module _ (y : CommitLayout) (s : Shape) (d : Bytes) (xs : List Extent) (ks start before after : List ℕ) (l : InRange s) (w : Lowered y s d ks xs start before after) where
  begins : (c : ℕ) → c < s.cores → Begins (λ (j : ℕ). record_met y s d ks before c (extent_at xs (get_or start c 0 + j))) (get_or before c 0) (get_or after c 0)
  unfolding Lowered LoweredTo
  begins c h = w c h

  low : (c : ℕ) → c < s.cores → get_or after c 0 ≤ get_or before c 0
  low c h = (begins c h).few

  round_met : (c j : ℕ) → c < s.cores → j < get_or after c 0 → record_met y s d ks before c (extent_at xs (get_or start c 0 + j)) ≡ true
  unfolding every
  round_met c j h g = all_mem _ _ (begins c h).met (below_mem (get_or after c 0) j g)

  pub round_tested : RunsTested s d xs start before → RunsTested s d xs start after
  unfolding RunsTested
  round_tested t c h = record { room = omega (arith, (t c h).room, low c h); each = λ j g. (t c h).each j (omega (arith, low c h)) }

  abbrev stays : List Committed → Committed → Bool
  stays = names_met in_sequence y s d (numbered ks)

  abbrev given : List Committed
  given = records_in s xs ks start before

  abbrev valid : List Committed
  valid = valid_set in_sequence y s d (numbered ks) given

  -- with a valid record all of its core before it are valid, and so met
  earlier_met : (c j m : ℕ) → c < s.cores → m ≤ j → Memᴰ (record_of xs ks start c j) valid → record_met y s d ks before c (extent_at xs (get_or start c 0 + m)) ≡ true
  unfolding is_in numbered
  earlier_met c j m h g i =
      let name : ℕ → Name = λ k. new_name c (get_or ks c 0 + k) in
      let last : is_in valid (name j) ≡ true = mem_any (λ (e : Committed). same_name (name j) (name_of e)) i (rw (record_name xs ks start c j) (same_name_refl (name j))) in
      let t : tail_number ks c ≡ get_or ks c 0 = tail_number_lem s ks l c h in
      let one : is_in valid (name m) ≡ true = valid_begins y s d (numbered ks) given c (get_or ks c 0 + m) (get_or ks c 0 + j) (omega arith) (omega arith) last in
      let r = any_mem (λ (e : Committed). same_name (name m) (name_of e)) valid one in
      let within = valid_within in_sequence y s d (numbered ks) given in
      let q = named_record s xs ks start before c m r.0 (same_name_true (name m) (name_of r.0) r.2) (within r.0 r.1) in
      let closed : stays valid r.0 ≡ true = valid_closed in_sequence y s d (numbered ks) given r.0 r.1 in
      let here : stays given r.0 ≡ true = names_met_monotone in_sequence y s d (numbered ks) valid given within r.0 closed in
      and_right (count_met s ks before c (get_or ks c 0 + m - 1)) _ (sym (record_stays s xs ks start before l y d c m) ∙ sym (ap (stays given) q.same) ∙ here)

  -- no valid record goes
  round_keeps : Within (shrink stays given) (records_in s xs ks start after)
  unfolding valid_set
  round_keeps e i =
      let r = mem_records s xs ks start before e (shrink_within stays given e i) in
      let c = r.0 in
      let j = r.1 in
      let h = r.2.core in
      let same = r.2.same in
      elim (dec_lt j (get_or after c 0)) [
        | yes g ↦ subst (λ (x : Committed). Memᴰ x (records_in s xs ks start after)) (sym same) (records_mem s xs ks start after c j h g)
        | no g ↦ absurd (true≢false (sym (earlier_met c j (get_or after c 0) h (omega arith) (subst (λ (x : Committed). Memᴰ x valid) same i))
            ∙ (begins c h).unmet (omega (arith, r.2.place))))
      ]

  pub round_same : shrink stays (records_in s xs ks start after) ≡ shrink stays given
  round_same =
      shrink_selection stays (names_met_monotone in_sequence y s d (numbered ks)) given (records_in s xs ks start after)
      (records_lower s before after low xs ks start) round_keeps

  -- where no count falls, all are met
  pub round_settled : total_count s after ≡ total_count s before → records_in s xs ks start after ≡ shrink stays given
  round_settled t =
      let same = total_equal s before after low t in
      records_equal s before after low xs ks start same ∙ shrink_none stays given (λ e i.
      let r = mem_records s xs ks start before e i in
      ap (stays given) r.2.same
      ∙ record_stays s xs ks start before l y d r.0 r.1
      ∙ and_both (before_met s xs ks start before l r.0 r.1 r.2.core r.2.place)
      (round_met r.0 r.1 r.2.core (omega (arith, same r.0 r.2.core, r.2.place))))

-- ---- the same of what is the same
module _ (y y′ : CommitLayout) (s s′ : Shape) (d d′ : Bytes) (xs xs′ : List Extent) (ks ks′ start start′ count : List ℕ) where
  records_alike : s′ ≡ s → xs′ ≡ xs → ks′ ≡ ks → start′ ≡ start → records_in s′ xs′ ks′ start′ count ≡ records_in s xs ks start count
  records_alike e f g h = rw (e, f, g, h) refl

  stays_alike : y′ ≡ y → s′ ≡ s → d′ ≡ d → ks′ ≡ ks → names_met in_sequence y′ s′ d′ (numbered ks′) ≡ names_met in_sequence y s d (numbered ks)
  stays_alike e f g h = rw (e, f, g, h) refl

  tested_alike : s′ ≡ s → d′ ≡ d → xs′ ≡ xs → RunsTested s′ d′ xs′ start count → RunsTested s d xs start count
  tested_alike e f g t = rw (e, f, g) at t

-- with the tails that were read: the valid set
by_tails : (y : CommitLayout) (s : Shape) (d : Bytes) (xs : List Extent) (ks start start′ before after : List ℕ) (ts : List Tail)
    → ks ≡ numbers_of ts
    → start′ ≡ start
    → records_in s xs ks start after ≡ shrink (names_met in_sequence y s d (numbered ks)) (records_in s xs ks start before)
    → records_in s xs (numbers_of ts) start′ after
    ≡ valid_set in_sequence y s d (numbered (numbers_of ts)) (records_in s xs (numbers_of ts) start before)
unfolding valid_set
by_tails y s d xs ks start start′ before after ts e f h = rw f (rw e at h)

-- ---- extents that differ in their stamps alone
begins_same : (p q : ℕ → Bool) (n m : ℕ) → ((j : ℕ) → p j ≡ q j) → Begins p n m → Begins q n m
begins_same p q n m e b = subst (λ (r : ℕ → Bool). Begins r n m) (λ i j. e j i) b

pub lowered_same : (y : CommitLayout) (s : Shape) (d : Bytes) (ks : List ℕ) (xs : List Extent) (start before after : List ℕ) (zs : List Extent) → SamePlaces xs zs
    → Lowered y s d ks xs start before after → Lowered y s d ks zs start before after
unfolding Lowered LoweredTo record_met
lowered_same y s d ks xs start before after zs g w c h =
    begins_same _ _ _ _ (λ j.
    let e = g (get_or start c 0 + j) in
    ap₂ (λ (p n : ℕ). commit_met y s ks before (journal_at s d c (p + (n + 1)))) (sym e.0) (sym e.1)) (w c h)

-- ---- the recursion; m and n are how many there are after a round and before it
module _ (y : CommitLayout) (s : Shape) (d : Bytes) (xs : List Extent) (ks start before after : List ℕ) (w : Lowered y s d ks xs start before after) where
  pub shrink_falls : (m n : ℕ) → m ≡ total_count s after → n ≡ total_count s before → (m ≡ n → ⊥) → InRange s → total_count s after < total_count s before
  shrink_falls m n p q h l = omega (arith, h, total_lower s before after (low y s d xs ks start before after l w))

-- ---- the recursion, from a round to one after it
abbrev stays_in : Round → List Committed → Committed → Bool
stays_in r = names_met in_sequence r.layout r.records.disk.shape r.records.disk.bytes.now (numbered r.oldest)

module _ (a b : Round) (k : CountsAlone a b) where
  -- what is left of a's records
  abbrev remaining : List Extent → List Committed
  remaining zs = records_in a.records.disk.shape zs a.oldest a.records.runs.start b.records.runs.count

  counted_remaining : (zs : List Extent) → counted zs b ≡ remaining zs
  counted_remaining zs =
      records_alike a.layout b.layout _ _ a.records.disk.bytes.now b.records.disk.bytes.now _ _ _ _ _ _ _ k.shape refl k.oldest k.start

  stays_same : stays_in b ≡ stays_in a
  stays_same =
      stays_alike _ _ _ _ _ _ a.records.extents.now b.records.extents.now _ _ a.records.runs.start b.records.runs.start b.records.runs.count
      k.layout k.shape k.bytes k.oldest

  pub alone_again : (c : Round) → CountsAlone b c → CountsAlone a c
  alone_again c g =
      record {
        layout = g.layout ∙ k.layout;
        oldest = g.oldest ∙ k.oldest;
        shape = g.shape ∙ k.shape;
        bytes = g.bytes ∙ k.bytes;
        extents = g.extents ∙ k.extents;
        start = g.start ∙ k.start;
      }

  pub alone_tested : RunsTested a.records.disk.shape a.records.disk.bytes.now a.records.extents.now b.records.runs.start b.records.runs.count
  alone_tested =
      tested_alike a.layout b.layout _ _ _ _ _ _ a.oldest b.oldest _ a.records.runs.start _ k.shape k.bytes k.extents b.records.tested

  -- by the numbers of the tails that were read: the valid set
  pub shrunk_valid : (ts : List Tail) → a.oldest ≡ numbers_of ts
      → ((zs : List Extent) → SamePlaces a.records.extents.now zs → counted zs b ≡ shrink (stays_in a) (counted zs a))
      → (zs : List Extent) → SamePlaces a.records.extents.now zs
      → records_in a.records.disk.shape zs (numbers_of ts) b.records.runs.start b.records.runs.count
      ≡ valid_set in_sequence a.layout a.records.disk.shape a.records.disk.bytes.now (numbered (numbers_of ts))
      (records_in a.records.disk.shape zs (numbers_of ts) a.records.runs.start a.records.runs.count)
  shrunk_valid ts e h zs g = by_tails a.layout a.records.disk.shape a.records.disk.bytes.now zs a.oldest a.records.runs.start
      b.records.runs.start a.records.runs.count b.records.runs.count ts e k.start (sym (counted_remaining zs) ∙ h zs g)

  module _ (w : Lowered a.layout a.records.disk.shape a.records.disk.bytes.now a.oldest a.records.extents.now a.records.runs.start a.records.runs.count b.records.runs.count) where
    -- m and n are how many there are after the round and before it
    module _ (m n : ℕ) (p : m ≡ total_count b.records.disk.shape b.records.runs.count) (q : n ≡ total_count a.records.disk.shape a.records.runs.count) where
      total_remaining : m ≡ total_count a.records.disk.shape b.records.runs.count
      total_remaining = p ∙ ap (λ (s : Shape). total_count s b.records.runs.count) k.shape

      pub shrink_settled : m ≡ n → (zs : List Extent) → SamePlaces a.records.extents.now zs → counted zs b ≡ shrink (stays_in a) (counted zs a)
      shrink_settled h zs g =
          counted_remaining zs ∙ round_settled _ _ _ _ _ _ _ _ a.records.disk.in_range (lowered_same _ _ _ _ _ _ _ _ zs g w) (sym total_remaining ∙ h ∙ q)

      pub round_falls : (m ≡ n → ⊥) → m < n
      round_falls h =
          omega (
            arith,
            h,
            total_remaining,
            q,
            total_lower a.records.disk.shape a.records.runs.count b.records.runs.count
                (low a.layout a.records.disk.shape a.records.disk.bytes.now a.records.extents.now a.oldest a.records.runs.start a.records.runs.count b.records.runs.count
                a.records.disk.in_range w),
          )

    pub shrink_again : (c : Round) → ((zs : List Extent) → SamePlaces b.records.extents.now zs → counted zs c ≡ shrink (stays_in b) (counted zs b))
        → (zs : List Extent) → SamePlaces a.records.extents.now zs → counted zs c ≡ shrink (stays_in a) (counted zs a)
    shrink_again c e zs g =
        e zs (subst (λ (xs : List Extent). SamePlaces xs zs) (sym k.extents) g)
        ∙ ap₂ shrink stays_same (counted_remaining zs)
        ∙ round_same _ _ _ _ _ _ _ _ a.records.disk.in_range (lowered_same _ _ _ _ _ _ _ _ zs g w)
