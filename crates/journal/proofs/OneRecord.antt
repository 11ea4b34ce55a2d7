-- A position counts round; the part of the disk that is lent is the journal's block. A descriptor, then a commit, read with their numbers, give the
-- record at a position; else the first end that fits is answered.
use Rattle.model.proofs.Base.{ℕ, ◌+◌, ◌*◌, ◌/◌, ◌%◌, ◌≤◌, ◌<◌, arith, ◌≡◌, refl, sym, ap, ◌∙◌, Bool, true, false, cond, length, take}
use Rattle.model.proofs.Base.{zero, suc, List, [], get_or, drop, not, eq-eqb, ne_eqb, lt-ltb, le-ltb, ltb-false, Bytes}
use native.Mathlib.Nat.{mod-lt, mul-le-mul, mul-suc}
use Rattle.std.specs.Simd.{first_chunks}
use Rattle.std.proofs.lemmas.List.{drop-drop}
use Rattle.model.specs.Bytes.{block_at, part}
use Rattle.model.specs.Shape.{journal_block}
use Rattle.model.specs.Layout.{has_head, block_count, is_commit, stamp_in}
use Rattle.model.specs.Journal.{journal_at}
use Rattle.model.specs.JournalEnds.{lacks_descriptor, has_bad_field, read_record, end_number, record_answer}
use denote.Enum.Declared.{tag_of}
use Rattle.model.specs.contracts.JournalEnd.{the_type}
use Rattle.model.specs.Limits.{max_taken, max_number}
use Rattle.model.specs.declared.Shape.{Shape}
use Rattle.model.specs.declared.CommitLayout.{CommitLayout}
use Rattle.model.specs.declared.Committed.{Committed}
use Rattle.std.specs.Prelude.{Option, Some, None, Result, Ok, Err}
use Rattle.model.specs.declared.JournalEnd.{JournalEnd}
use Rattle.model.specs.declared.JournalEnd.TheVariants.{NoDescriptor, BadDescriptor, TooFewBlocks, NoCommit}
use Rattle.model.proofs.Limits.{InRange}
use Rattle.model.proofs.Lists.{or_none}
use Rattle.journal.specs.Record.{descriptor_of, commit_of}

-- ---- a position, and the part lent
pub position_low : (s : Shape) (p r : ℕ) → InRange s → r ≡ p % s.journal → r < 24
position_low s p r l e = let z : 0 < s.journal = omega (arith, l.long) in omega (arith, mod-lt p z, l.short)

pub position_byte : (s : Shape) (p r : ℕ) → InRange s → r ≡ p % s.journal → r < 256
position_byte s p r l e = omega (arith, position_low s p r l e)

pub block_is : (s : Shape) (c p r : ℕ) → r ≡ p % s.journal → 1 + s.blocks + c * s.journal + r ≡ journal_block s c p
unfolding journal_block
block_is s c p r e = rw e

-- the journals before core c's take no more than 168 blocks
pub row_low : (s : Shape) (c : ℕ) → InRange s → c < s.cores → c * s.journal ≤ 168
row_low s c l h = mul-le-mul {n₁ = c} {n₂ = 7} (omega (arith, l.few_cores)) l.short

-- of the blocks that a disk is cut into, the one with a number
pub chunk_at : (n k i : ℕ) (d : Bytes) → i < k → get_or (first_chunks n k d) i [] ≡ take n (drop (n * i) d)
chunk_at n zero i d h = absurd (omega arith)
chunk_at n (suc k) zero d h = let z : 0 ≡ n * 0 = omega arith in ap (λ (j : ℕ). take n (drop j d)) z
chunk_at n (suc k) (suc i) d h = chunk_at n k i (drop n d) (omega arith) ∙ ap (take n) (drop-drop (n * i) n d ∙ ap (λ (j : ℕ). drop j d) (omega (arith, mul-suc n i)))

pub chunk_is : (s : Shape) (d : Bytes) (c p r : ℕ) (bs : List Bytes) → bs ≡ first_chunks 128 (length d / 128) d → length d ≡ 32896 → r < 257 → r ≡ journal_block s c p
    → get_or bs r [] ≡ journal_at s d c p
unfolding journal_at block_at part
chunk_is s d c p r bs e l h near =
    ap (λ (xs : List Bytes). get_or xs r []) e ∙ chunk_at 128 (length d / 128) r d (omega (arith, l)) ∙ ap (λ (j : ℕ). take 128 (drop (128 * j) d)) near

-- ---- a block read
-- no descriptor, from what the calls answered
module _ (k left : ℕ) (b : Bytes) where
  pub lacks_block : left ≡ 0 → true ≡ lacks_descriptor k left b
  unfolding lacks_descriptor
  lacks_block h = rw (eq-eqb left 0 h)

  module _ (z : left ≡ 0 → ⊥) where
    pub lacks_number : max_number < k → true ≡ lacks_descriptor k left b
    unfolding lacks_descriptor
    lacks_number h = rw (ne_eqb left 0 z, lt-ltb max_number k h)

    pub lacks_head : k ≤ max_number → (r : Bool) → r ≡ has_head 1 k b → not r ≡ lacks_descriptor k left b
    unfolding lacks_descriptor
    lacks_head h r e = rw (ne_eqb left 0 z, le-ltb max_number k h, e)

-- the fields of a descriptor, with what the test answered: r; the count fits a byte
module _ (s : Shape) (b : Bytes) (r : Bool) (e : r ≡ has_bad_field s b) where
  pub descriptor_bad : r ≡ true → None ≡ descriptor_of s b
  unfolding descriptor_of
  descriptor_bad h = rw (← e, h)

  module _ (h : r ≡ false) (n : ℕ) (q : n ≡ block_count b) where
    pub descriptor_fits : n < 256
    unfolding has_bad_field
    descriptor_fits = omega (arith, ltb-false max_taken (block_count b) (or_none _ _ (or_none _ _ (sym e ∙ h)).0).0)

    pub descriptor_is : Some n ≡ descriptor_of s b
    unfolding descriptor_of
    descriptor_is = rw (← e, h, q)

module _ (y : CommitLayout) (s : Shape) (k : ℕ) (b : Bytes) (r : Bool) (e : r ≡ is_commit y s k b) where
  pub commit_is : (x : ℕ) → r ≡ true → x ≡ stamp_in b → Some x ≡ commit_of y s k b
  unfolding commit_of
  commit_is x h p = rw (← e, h, p)

  pub commit_none : r ≡ false → None ≡ commit_of y s k b
  unfolding commit_of
  commit_none h = rw (← e, h)

-- ---- a record read
none_left : (o : Option ℕ) → ((n : ℕ) → o ≡ Some n → ⊥) → o ≡ None
none_left None f = refl
none_left (Some n) f = absurd (f n refl)

blocks_known : (t : Bool) (m n : ℕ) → cond t None (Some m) ≡ Some n → (t ≡ false) × (m ≡ n)
blocks_known false m n e = (refl, (cc))
blocks_known true m n e = cc

bad_known : (t : Bool) (m : ℕ) → cond t None (Some m) ≡ None → t ≡ true
bad_known false m e = cc
bad_known true m e = refl

stamped_known : (t : Bool) (m x : ℕ) → cond t (Some m) None ≡ Some x → (t ≡ true) × (m ≡ x)
stamped_known true m x e = (refl, (cc))
stamped_known false m x e = cc

unfit_known : (t : Bool) (m : ℕ) → cond t (Some m) None ≡ None → t ≡ false
unfit_known true m e = cc
unfit_known false m e = refl

-- each return is one case of `read_record`, from what the calls answered
module _ (y : CommitLayout) (s : Shape) (d : Bytes) (c k p left : ℕ) (b : Bytes) (r : Bool) (q : b ≡ journal_at s d c p) (e : r ≡ lacks_descriptor k left b) where
  lacking : r ≡ lacks_descriptor k left (journal_at s d c p)
  lacking = rw q at e

  pub end_descriptor : r ≡ true → Err NoDescriptor ≡ read_record y s d c k p left
  unfolding read_record
  end_descriptor z = rw (← lacking, z)

  module _ (z : r ≡ false) (f : Option ℕ) (e₁ : f ≡ descriptor_of s b) where
    pub end_fields : ((n : ℕ) → f ≡ Some n → ⊥) → Err BadDescriptor ≡ read_record y s d c k p left
    unfolding read_record descriptor_of
    end_fields v =
        let u : has_bad_field s (journal_at s d c p) ≡ true = rw q at (bad_known (has_bad_field s b) (block_count b) (sym e₁ ∙ none_left f v)) in
        rw (← lacking, z, u)

    module _ (n : ℕ) (x : f ≡ Some n) where
      known : (has_bad_field s (journal_at s d c p) ≡ false) × (block_count (journal_at s d c p) ≡ n)
      unfolding descriptor_of
      known = rw q at (blocks_known (has_bad_field s b) (block_count b) n (sym e₁ ∙ x))

      pub end_room : left < n + 2 → Err TooFewBlocks ≡ read_record y s d c k p left
      unfolding read_record
      end_room h = rw (← lacking, z, known.0, known.1, lt-ltb left (n + 2) h)

      module _ (b₂ : Bytes) (g : Option ℕ) (h : n + 2 ≤ left) (q₂ : b₂ ≡ journal_at s d c (p + (n + 1))) (e₂ : g ≡ commit_of y s k b₂) where
        pub end_commit : ((m : ℕ) → g ≡ Some m → ⊥) → Err NoCommit ≡ read_record y s d c k p left
        unfolding read_record commit_of
        end_commit v =
            let u : is_commit y s k (journal_at s d c (p + (n + 1))) ≡ false = rw q₂ at (unfit_known (is_commit y s k b₂) (stamp_in b₂) (sym e₂ ∙ none_left g v)) in
            rw (← lacking, z, known.0, known.1, le-ltb left (n + 2) h, u)

        pub whole_record : (m : ℕ) → g ≡ Some m
            → Ok (record { core = c; number = k; position = p; count = n; stamp = m }) ≡ read_record y s d c k p left
        unfolding read_record commit_of
        whole_record m w =
            let u = rw q₂ at (stamped_known (is_commit y s k b₂) (stamp_in b₂) m (sym e₂ ∙ w)) in
            rw (← lacking, z, known.0, known.1, le-ltb left (n + 2) h, u.0, u.1)

-- ---- the number of an end
pub number_is : (r : Result Committed JournalEnd) (x : JournalEnd) → r ≡ Err x → tag_of the_type x + 1 ≡ (record_answer r).0
unfolding record_answer end_number
number_is r NoDescriptor h = rw h
number_is r BadDescriptor h = rw h
number_is r TooFewBlocks h = rw h
number_is r NoCommit h = rw h
