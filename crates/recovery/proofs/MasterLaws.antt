-- The first block is a master or RECOVER answers 8; its shape is the disk's, as is the layout that it gives. A card counts no home blocks while blank, its own
-- while up, while down those of a master that is fit.
use Rattle.model.proofs.Base.{ℕ, arith, ◌≡◌, sym, ap, subst, ◌∙◌, Bool, true, false, cond, not, ◌&&◌, length, eqb, Bytes}
use Rattle.std.specs.Prelude.{Option, Some, None}
use Rattle.model.specs.Bytes.{be4, part, block_at}
use Rattle.model.specs.Shape.{checked}
use Rattle.model.specs.Card.{shape_of}
use Rattle.model.specs.Layout.{mark, layout_in, shape_in, has_master_fields, is_master}
use Rattle.model.specs.Recovery.{shape_on, layout_on}
use Rattle.model.specs.Printing.{home_count}
use Rattle.model.specs.declared.Card.{Card}
use Rattle.model.specs.declared.Phase.{Phase}
use Rattle.model.specs.declared.Phase.TheVariants.{Blank, Up, Down}
use Rattle.model.specs.declared.Shape.{Shape}
use Rattle.model.specs.declared.CommitLayout.{CommitLayout}
use Rattle.model.proofs.Lists.{and_left, and_right}
use Rattle.model.proofs.Limits.{InRange}
use Rattle.model.proofs.OneStore.{master_limits}
use Rattle.cells.specs.Cells.{world}
use Rattle.recovery.specs.Recovering.{Shaped}

module _ (d b : Bytes) (q : b ≡ block_at d 0) (r : Bool) (e : r ≡ is_master b) where
  first_block : r ≡ is_master (block_at d 0)
  first_block = e ∙ ap is_master q

  pub is_master_lem : r ≡ true → ◌≡◌ {A = ℕ} 0 (cond (not (is_master (block_at d 0))) 8 0)
  is_master_lem h = rw (← first_block, h)

  pub no_master : r ≡ false → ◌≡◌ {A = ℕ} 8 (cond (not (is_master (block_at d 0))) 8 0)
  no_master h = rw (← first_block, h)

  pub is_fit : r ≡ true → is_master (block_at d 0) ≡ true
  is_fit h = sym first_block ∙ h

  -- the home blocks that it counts
  pub count_unfit : r ≡ false → 0 ≡ cond (is_master (block_at d 0)) (shape_on d).blocks 0
  count_unfit h = rw (← first_block, h)

  pub count_fit : r ≡ true → (s : Shape) → Shaped s d → s.blocks ≡ cond (is_master (block_at d 0)) (shape_on d).blocks 0
  count_fit h s f = ap (λ (s : Shape). s.blocks) f.shape ∙ rw (is_fit h)

module _ (d : Bytes) (h : is_master (block_at d 0) ≡ true) where
  pub master_part : (b : Bytes) → b ≡ block_at d 0 → is_master b ≡ true
  master_part b e = rw e h

  -- its shape is within the limits
  shape_fits : checked (be4 (block_at d 0) 12) (be4 (block_at d 0) 16) (be4 (block_at d 0) 20) ≡ Some (shape_on d)
  unfolding block_at part is_master has_master_fields checked shape_on shape_in
  shape_fits = rw (and_right (eqb (be4 (block_at d 0) 0) mark && eqb (be4 (block_at d 0) 4) 4) _ (and_left _ _ (and_left _ _ h)))

  disk_range : InRange (shape_on d)
  unfolding shape_on
  disk_range = master_limits (block_at d 0) h

  module _ (l : length d ≡ 32896) (b : Bytes) (q : b ≡ block_at d 0) (made : Option Shape) (e : made ≡ checked (be4 b 12) (be4 b 16) (be4 b 20)) where
    pub shape_made : (s : Shape) → made ≡ Some s → Shaped s d
    shape_made s f =
        let n : Some s ≡ Some (shape_on d) = sym f ∙ e ∙ rw q shape_fits in
        let z : s ≡ shape_on d = cc in
        record { long = l; master = h; shape = z; range = subst InRange (sym z) disk_range }

    pub shape_missed : made ≡ None → (y : Shape) → Shaped y d
    shape_missed f y =
        let n : Some (shape_on d) ≡ None = sym (rw q shape_fits) ∙ (sym e ∙ f) in
        let z : ◌≡◌ {A = ℕ} 0 1 = cc in
        absurd (omega arith)

-- the layout of the disk's commits
pub layout_read : (d b : Bytes) (y : CommitLayout) → b ≡ block_at d 0 → y ≡ layout_in b → y ≡ layout_on d
unfolding layout_on
layout_read d b y q e = e ∙ ap layout_in q

-- ---- the home blocks of a card, by its phase
module _ (x : Card) (d : Bytes) (p : Phase) (e : p ≡ x.phase) where
  pub blank_count : p ≡ Blank → (m : Bytes) → 0 ≡ home_count (world x d m)
  unfolding home_count
  blank_count h m = rw (← e, h, home_count)

  pub up_count : p ≡ Up → (s : Shape) → s ≡ shape_of x → (m : Bytes) → s.blocks ≡ home_count (world x d m)
  unfolding home_count
  up_count h s q m = rw (← e, h, home_count) (ap (λ (s : Shape). s.blocks) q)

  pub down_count : p ≡ Down → (n : ℕ) → n ≡ cond (is_master (block_at d 0)) (shape_on d).blocks 0 → (m : Bytes) → n ≡ home_count (world x d m)
  unfolding home_count
  down_count h n q m = rw (← e, h, home_count) q
