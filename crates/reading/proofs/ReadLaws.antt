-- The number of a reading comes in two stages. The part that is answered, of memory or of the disk, stands within its slice, and
-- its bytes are those of the block (`part_bytes`).
use Rattle.model.proofs.Base.{ℕ, ◌+◌, ◌-◌, ◌*◌, ◌≤◌, ◌<◌, arith, ◌≡◌, refl, sym, ap, subst, ◌∙◌, Bool, true, false, cond, [], ◌∷◌}
use Rattle.model.proofs.Base.{length, take, drop, eqb, leb, ne_eqb, eqb-true, leb-false, Bytes}
use Rattle.model.specs.Bytes.{part, block_at}
use Rattle.model.specs.Shape.{home_block}
use Rattle.model.specs.Card.{shape_of, holder_of, is_held}
use Rattle.model.specs.Command.{World, refusal, not_up, no_block, Clear}
use Rattle.model.specs.Reading.{read_conditions, read_number, read_block}
use Rattle.model.specs.declared.Card.{Card}
use Rattle.model.proofs.Lists.{cases}
use Rattle.model.proofs.Command.{refusal_clear}
use Rattle.model.proofs.OneStore.{shape_limits, right_lengths}
use Rattle.cells.specs.Answer.{first_of}
use Rattle.cells.specs.Cells.{world}
use Rattle.cells.proofs.RefusalLaws.{refusal_up, refusal_one}
use Rattle.reading.specs.Part.{PartAnswer, new_part, slice_number, answered, part_of, slice_of}
use Rattle.reading.specs.declared.Slice.TheVariants.{Disk, Memory}
use Rattle.std.specs.Prelude.{Result, Ok, Err}
use Rattle.model.specs.Refusal.{number_of}
use Rattle.model.specs.declared.Refusal.{Refusal}
use Rattle.model.proofs.RefusalNumbers.{number_not_0}
use Rattle.reading.specs.declared.BlockPart.{BlockPart}

-- ---- the number
pub read_stages : (x : Card) (b : ℕ) (d m : Bytes)
    → first_of (refusal (not_up (world x d m) [])) (cond (leb (shape_of x).blocks b) 6 0) ≡ read_number b (world x d m)
unfolding read_number read_conditions no_block
read_stages x b d m = sym (refusal_up (world x d m) ((no_block (world x d m) b, 6) ∷ []) ∙ rw refusal_one)

-- what is known once it is 0
pub record Readable (b : ℕ) (d m : Bytes) : Type 0 where
  pub disk : length d ≡ 32896
  pub memory : length m ≡ 16384
  pub below : b < 64

module _ (x : Card) (b : ℕ) (d m : Bytes) where
  pub readable : 0 ≡ read_number b (world x d m) → Readable b d m
  unfolding read_number read_conditions no_block
  readable e =
      let c : Clear (read_conditions b (world x d m)) = refusal_clear (read_conditions b (world x d m)) (omega arith, (omega arith, (omega arith, (omega arith, tt)))) (sym e) in
      let l = right_lengths (world x d m) c.0 in
      let s = shape_limits x in
      record { disk = l.0; memory = l.1; below = omega (arith, leb-false _ b c.1.1.1.0, s.few_blocks) }

  pub below_blocks : 0 ≡ read_number b (world x d m) → b < 64
  below_blocks e = (readable e).below

  -- ---- where the bytes stand
  pub part_none : (e : Refusal) → number_of e ≡ read_number b (world x d m) → (r : Result BlockPart Refusal) → r ≡ Err e → answered r ≡ part_of b (world x d m)
  unfolding part_of
  part_none e q r h = rw (h, ← q) (simp (ne_eqb (number_of e) 0 (number_not_0 e)))

  module _ (e : 0 ≡ read_number b (world x d m)) (g : Bool) (q : g ≡ is_held (holder_of x b)) where
    pub part_memory : g ≡ true → new_part 0 2 (128 * b) 128 ≡ part_of b (world x d m)
    unfolding part_of
    part_memory y = rw (← e, ← q, y)

    pub part_disk : g ≡ false → (k : ℕ) → k ≡ home_block b → new_part 0 1 (128 * k) 128 ≡ part_of b (world x d m)
    unfolding part_of
    part_disk y k r = rw (← e, ← q, y, r)

-- ---- the bytes there are the block's
pub part_bytes : (b : ℕ) (w : World) → part (part_of b w).from (part_of b w).length (slice_of (part_of b w).slice w) ≡ read_block b w
unfolding part_of slice_of read_block block_at part
part_bytes b w =
    cases (eqb (read_number b w) 0)
    (λ t. cases (is_held (holder_of w.card b)) (λ h. rw (t, h)) (λ h. rw (t, h)))
    (λ t. rw t)

-- the part p of one of the slices d and m is the bytes l
record PartIs (l d m : Bytes) (p : PartAnswer) : Type 0 where
  small : p.from + p.length ≤ 32896
  memory_end : p.slice ≡ 2 → p.from + p.length ≤ length m
  disk_end : (p.slice ≡ 2 → ⊥) → p.from + p.length ≤ length d
  memory_bytes : p.slice ≡ 2 → part p.from p.length m ≡ l
  disk_bytes : (p.slice ≡ 2 → ⊥) → part p.from p.length d ≡ l

module _ (x : Card) (b : ℕ) (d m : Bytes) where
  in_memory : read_number b (world x d m) ≡ 0 → is_held (holder_of x b) ≡ true → PartIs (read_block b (world x d m)) d m (new_part 0 2 (128 * b) 128)
  unfolding read_block block_at
  in_memory t h =
      let r = readable x b d m (sym t) in
      record {
        small = omega (arith, r.below);
        memory_end = λ e. omega (arith, r.below, r.memory);
        disk_end = λ e. absurd (e refl);
        memory_bytes = λ e. rw (t, h);
        disk_bytes = λ e. absurd (e refl);
      }

  on_disk : read_number b (world x d m) ≡ 0 → is_held (holder_of x b) ≡ false → PartIs (read_block b (world x d m)) d m (new_part 0 1 (128 * home_block b) 128)
  unfolding read_block block_at
  on_disk t h =
      let r = readable x b d m (sym t) in
      record {
        small = omega (arith, r.below);
        memory_end = λ e. absurd (omega (arith, e));
        disk_end = λ e. omega (arith, r.below, r.disk);
        memory_bytes = λ e. absurd (omega (arith, e));
        disk_bytes = λ e. rw (t, h);
      }

  nowhere : (n : ℕ) → eqb (read_number b (world x d m)) 0 ≡ false → PartIs (read_block b (world x d m)) d m (new_part n 0 0 0)
  unfolding read_block part
  nowhere n t =
      record {
        small = omega arith;
        memory_end = λ e. omega arith;
        disk_end = λ e. omega arith;
        memory_bytes = λ e. rw t;
        disk_bytes = λ e. rw t;
      }

  stands : PartIs (read_block b (world x d m)) d m (part_of b (world x d m))
  unfolding part_of
  stands =
      cases (eqb (read_number b (world x d m)) 0)
      (λ t. cases (is_held (holder_of x b))
      (λ h. rw (t, h) (in_memory (eqb-true _ 0 t) h))
      (λ h. rw (t, h) (on_disk (eqb-true _ 0 t) h)))
      (λ t. rw t (nowhere _ t))

  -- refused: no bytes
  pub no_bytes : (e : Refusal) → answered (Err e) ≡ part_of b (world x d m) → [] ≡ read_block b (world x d m)
  unfolding part
  no_bytes e q =
      let p : PartIs (read_block b (world x d m)) d m (answered (Err e)) = subst (PartIs (read_block b (world x d m)) d m) (sym q) stands in
      p.disk_bytes (λ h. omega arith)

  module _ (p : BlockPart) (e : answered (Ok p) ≡ part_of b (world x d m)) where
    there : PartIs (read_block b (world x d m)) d m (answered (Ok p))
    there = subst (PartIs (read_block b (world x d m)) d m) (sym e) stands

    span : p.from + p.length - p.from ≡ p.length
    span = omega arith

    pub end_small : p.from + p.length ≤ 32896
    end_small = there.small

    module _ (h : p.slice ≡ Memory) where
      pub memory_end : p.from + p.length ≤ length m
      memory_end = there.memory_end (ap slice_number h)

      pub memory_read : take (p.from + p.length - p.from) (drop p.from m) ≡ read_block b (world x d m)
      unfolding part
      memory_read = rw span (there.memory_bytes (ap slice_number h))

    module _ (h : p.slice ≡ Disk) where
      disk_number : slice_number p.slice ≡ 1
      disk_number = ap slice_number h

      pub disk_end : p.from + p.length ≤ length d
      disk_end = there.disk_end (λ k. omega (arith, disk_number))

      pub disk_read : take (p.from + p.length - p.from) (drop p.from d) ≡ read_block b (world x d m)
      unfolding part
      disk_read = rw span (there.disk_bytes (λ k. omega (arith, disk_number)))
