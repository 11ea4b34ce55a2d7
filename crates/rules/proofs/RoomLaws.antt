-- WRITE answers 25, 36, 26 and 27 exactly under their conditions: a block taken where there are eight, or as many as the task's limit; a
-- record that the journal has no room for; a number too high.
use Rattle.model.proofs.Base.{ℕ, ◌+◌, ◌<◌, min, arith, ◌≡◌, refl, sym, ap, ◌∙◌, Bool, true, false, cond, not, ◌&&◌, List}
use Rattle.model.proofs.Base.{length, take, set, length-set, length-take, ltb, leb, le-leb, lt-leb, leb-true, leb-false, not-true}
use Rattle.model.proofs.Base.{not-false}
use Rattle.model.specs.Card.{opened, taken, with_name, record_size, shape_of, core_of}
use Rattle.model.specs.Command.{refusal}
use Rattle.model.specs.Limits.{max_taken, max_number}
use Rattle.model.specs.Write.{writer, takes_block, takes_past, names_holder, closed_blocks}
use Rattle.model.specs.declared.Shape.{Shape}
use Rattle.model.specs.declared.Name.{Name}
use Rattle.model.specs.declared.Transaction.{Transaction}
use Rattle.model.specs.declared.Card.{Card}
use Rattle.model.specs.declared.Rule.{Rule}
use Rattle.model.proofs.Lists.{cases}
use Rattle.cells.specs.Cells.{byte_in, transaction_in, card_in, core_place, running_place, closed_place}
use Rattle.cells.specs.Changes.{opened_or}
use Rattle.cells.proofs.ReadLaws.{used_there, running_read, running_there, closed_there, closed_live, blocks_long}
use Rattle.cells.proofs.TransactionLaws.{open_live}
use Rattle.rules.specs.Conditions.{size_after, named_by, taken_by, after_by, room_conditions}
use Rattle.rules.specs.declared.RuleMet.{RuleMet}
use Rattle.rules.proofs.RuleLaws.{cond_not, cond_done}

-- ---- the writer: one that opens has no blocks
opened_count : ◌≡◌ {A = ℕ} 0 (length (taken opened))
unfolding taken
opened_count = refl

module _ (x : Card) (c : ℕ) (l : Bool) (q : l ≡ (core_of x c).running.live) (z : not l ≡ true) where
  writer_opens : writer x c ≡ opened
  unfolding writer
  writer_opens = rw (← q, not-true l z)

  pub count_none : 0 ≡ length (taken (writer x c))
  count_none = rw writer_opens opened_count

module _ (w : List ℕ) (c : ℕ) (h : c < 8) (p : ℕ) (e : p ≡ running_place c) (l : Bool) (q : l ≡ (core_of (card_in w) c).running.live) (z : not l ≡ false) where
  writer_runs : transaction_in w p ≡ writer (card_in w) c
  unfolding writer opened_or
  writer_runs = running_there w c h p e ∙ open_live (core_of (card_in w) c).running l q (not-false l z)

  pub count_some : (k : ℕ) → k ≡ length (taken (transaction_in w p)) → k ≡ length (taken (writer (card_in w) c))
  count_some k s = s ∙ rw writer_runs

pub writer_long : (w : List ℕ) (c : ℕ) → c < 8 → length (writer (card_in w) c).blocks ≡ 8
unfolding writer
writer_long w c h =
    cases (core_of (card_in w) c).running.live (λ t. rw (t, ← running_read w c h) (blocks_long w (running_place c))) (λ t. rw t)

-- ---- closed ones
module _ (w : List ℕ) (c : ℕ) (h : c < 8) (a : ℕ) (d : a ≡ core_place c) (u : ℕ) (s : u ≡ byte_in w (a + 1)) (p : ℕ) (e : p ≡ closed_place c) (g : Bool) (q : g ≡ (transaction_in w p).live) where
  pub used_none : not g ≡ true → u ≡ closed_blocks (core_of (card_in w) c)
  unfolding closed_blocks
  used_none z = omega (arith, used_there w c h a d u s, cond_not g _ (closed_live w c h p e g q) (record_size (core_of (card_in w) c).closed) 0 z)

  pub used_some : not g ≡ false → (k : ℕ) → k ≡ length (taken (transaction_in w p)) → u + (k + 2) ≡ closed_blocks (core_of (card_in w) c)
  unfolding closed_blocks record_size
  used_some z k r =
      let size : k + 2 ≡ record_size (core_of (card_in w) c).closed = ap (λ (m : ℕ). m + 2) (r ∙ ap (λ (t : Transaction). length (taken t)) (closed_there w c h p e)) in
      omega (arith, used_there w c h a d u s, cond_done g _ (closed_live w c h p e g q) (record_size (core_of (card_in w) c).closed) 0 (k + 2) size z)

-- ---- 26, the record afterwards
pub journal_test : (j u m a b : ℕ) → u ≡ a → m ≡ b → ltb j (u + m) ≡ ltb j (a + b)
journal_test j u m a b p q = rw (p, q)

-- a number raised leaves the blocks alone
pub named_count : (r : Rule) (t : Transaction) (n : Name) → (named_by r t n).count ≡ t.count
unfolding named_by with_name
named_count r t n = cases (names_holder r) (λ h. rw h) (λ h. rw h)

named_blocks : (r : Rule) (t : Transaction) (n : Name) → (named_by r t n).blocks ≡ t.blocks
unfolding named_by with_name
named_blocks r t n = cases (names_holder r) (λ h. rw h) (λ h. rw h)

module _ (r : Rule) (t : Transaction) (l : length t.blocks ≡ 8) (k : ℕ) (e : k ≡ length (taken t)) where
  taken_count : k ≡ min t.count 8
  unfolding taken
  taken_count = e ∙ length-take t.count t.blocks ∙ ap (min t.count) l

  -- 25
  ninth_count : leb 8 k ≡ leb 8 t.count
  ninth_count =
      cases (leb 8 t.count)
      (λ h. le-leb 8 k (omega (arith, taken_count, leb-true 8 t.count h)) ∙ sym h)
      (λ h. lt-leb 8 k (omega (arith, taken_count, leb-false 8 t.count h)) ∙ sym h)

  pub ninth_is : (g : Bool) → g ≡ (takes_block r && leb 8 k) → g ≡ takes_past max_taken r t
  ninth_is g q = q ∙ rw ninth_count

  -- 36, any limit: where no ninth block is taken, the blocks are as many as are counted
  pub limit_is : (limit : ℕ) (s : Bool) → s ≡ (takes_block r && leb limit k) → (g : Bool) → g ≡ (takes_block r && leb 8 k) → g ≡ false → s ≡ takes_past limit r t
  limit_is limit s p g q z =
      p
      ∙ cases (takes_block r)
      (λ h.
      let y : leb 8 k ≡ false = rw h at (sym q ∙ z) in
      let u : k ≡ t.count = omega (arith, taken_count, leb-false 8 k y) in
      rw (h, u) refl)
      (λ h. rw h refl)

  pub size_is : (n : Name) (b : ℕ) → (g : Bool) → g ≡ (takes_block r && leb 8 k) → g ≡ false → size_after r k ≡ record_size (taken_by r (named_by r t n) b)
  unfolding size_after record_size taken_by taken
  size_is n b g q z =
      cases (takes_block r)
      (λ h.
      let y : leb 8 k ≡ false = rw h at (sym q ∙ z) in
      let u : length (take ((named_by r t n).count + 1) (set (named_by r t n).blocks (named_by r t n).count b)) ≡ min (t.count + 1) 8 =
      length-take ((named_by r t n).count + 1) _ ∙ rw (length-set, named_count r t n, named_blocks r t n, l) in
      rw (h, u) (omega (arith, taken_count, leb-false 8 k y)))
      (λ h. rw (h, named_count r t n, named_blocks r t n, e))

-- ---- 27
pub number_opens : (l p : Bool) → l ≡ false → p ≡ (not l && p)
number_opens l p h = rw h

-- ---- the refusals in turn
module _ (w : List ℕ) (limit : ℕ) (f : RuleMet) (core : f.core < 8) (k : ℕ) (count : k ≡ length (taken (writer (card_in w) f.core))) (r : Bool) (more : r ≡ (takes_block f.rule && leb 8 k)) where
  ninth_met : r ≡ takes_past max_taken f.rule (writer (card_in w) f.core)
  ninth_met = ninth_is f.rule (writer (card_in w) f.core) (writer_long w f.core core) k count r more

  pub refused_ninth : r ≡ true → 25 ≡ refusal (room_conditions (card_in w) limit f)
  unfolding refusal
  refused_ninth h = rw (← ninth_met, h)

  module _ (r' : r ≡ false) (p : Bool) (past : p ≡ (takes_block f.rule && leb limit k)) where
    limit_met : p ≡ takes_past limit f.rule (writer (card_in w) f.core)
    limit_met = limit_is f.rule (writer (card_in w) f.core) (writer_long w f.core core) k count limit p past r more r'

    pub refused_limit : p ≡ true → 36 ≡ refusal (room_conditions (card_in w) limit f)
    unfolding refusal
    refused_limit h = rw (← ninth_met, r', ← limit_met, h)

    module _ (p' : p ≡ false) (s : Shape) (shape : s ≡ shape_of (card_in w)) (t : Bool) (full : t ≡ ltb s.journal (closed_blocks (core_of (card_in w) f.core) + size_after f.rule k)) where
      journal_met : t ≡ ltb (shape_of (card_in w)).journal (closed_blocks (core_of (card_in w) f.core) + record_size (after_by (card_in w) f))
      journal_met = full ∙ rw (shape, size_is f.rule (writer (card_in w) f.core) (writer_long w f.core core) k count f.holder f.block r more r')

      pub refused_journal : t ≡ true → 26 ≡ refusal (room_conditions (card_in w) limit f)
      unfolding refusal
      refused_journal h = rw (← ninth_met, r', ← limit_met, p', ← journal_met, h)

      module _ (t' : t ≡ false) (l : Bool) (live : l ≡ (core_of (card_in w) f.core).running.live) (u : Bool) (last : u ≡ (not l && ltb max_number f.own.number)) where
        numbers_met : u ≡ (not (core_of (card_in w) f.core).running.live && ltb max_number f.own.number)
        numbers_met = last ∙ rw live

        refused_last : refusal (room_conditions (card_in w) limit f) ≡ cond u 27 0
        unfolding refusal
        refused_last = rw (← ninth_met, r', ← limit_met, p', ← journal_met, t', ← numbers_met)

        pub refused_numbers : u ≡ true → 27 ≡ refusal (room_conditions (card_in w) limit f)
        refused_numbers h = rw (refused_last, h)

        pub refused_not : u ≡ false → 0 ≡ refusal (room_conditions (card_in w) limit f)
        refused_not h = rw (refused_last, h)
