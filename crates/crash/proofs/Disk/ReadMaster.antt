-- The master of a disk that holds what the ledger says is read as the ledger's shape and the tails given, since both are
-- within their limits; so no RECOVER over such a disk meets 8. The card's own shape is read as it is.
-- A master block has the tails of its cores alone, and is a block of bytes.
use Rattle.model.proofs.Base.{ℕ, suc, ◌<◌, arith, ◌≡◌, ap, ◌∙◌, true, lt-ltb, le-leb, Bytes}
use Rattle.model.specs.Bytes.{block_at}
use Rattle.model.specs.Shape.{between, clamped}
use Rattle.model.specs.Card.{shape_of}
use Rattle.model.specs.Layout.{is_tail, is_master, layout_in, shape_in, tail_in, master_block}
use Rattle.model.specs.Command.{World}
use Rattle.model.specs.Recovery.{shape_on, tail_on, layout_on}
use Rattle.model.specs.Limits.{max_number}
use Rattle.model.specs.declared.Tail.{Tail}
use Rattle.model.specs.declared.Shape.{Shape}
use Rattle.model.specs.declared.CommitLayout.{CommitLayout}
use Rattle.model.proofs.Limits.{clamped_same, InRange}
use Rattle.model.proofs.Words.{each_block}
use Rattle.model.proofs.Encoding.{master_shape, master_tail, master_layout, master_read, length_master}
use Rattle.crash.specs.Ledger.{Ledger}
use Rattle.crash.proofs.Disk.BlockBytes.{each_is_bytes}
use Rattle.crash.proofs.Disk.Relation.{WellFormed, DiskStands, CardUp, IsBlock}

module _ {y : CommitLayout} {l : Ledger} {d : Bytes} {tail_at : ℕ → Tail} (f : WellFormed l) (z : DiskStands y l d tail_at) where
  tail_fits : (c : ℕ) → c < l.shape.cores → is_tail l.shape (tail_at c) ≡ true
  unfolding is_tail between
  tail_fits c h =
      let j = z.journals c h in
      let r = f.ranks c h in
      rw (
        le-leb 1 (tail_at c).number (omega (arith, r.below.positive, j.number)),
        le-leb (tail_at c).number (suc max_number) (omega (arith, r.low, r.mid, r.top, j.number)),
        lt-ltb (tail_at c).position l.shape.journal j.position,
      )

  pub master_stands : is_master (block_at d 0) ≡ true
  master_stands = ap is_master z.master ∙ master_read y f.range tail_at tail_fits

  pub shape_read : shape_on d ≡ l.shape
  unfolding shape_on
  shape_read = ap shape_in z.master ∙ master_shape y f.range tail_at tail_fits

  pub layout_read : layout_on d ≡ y
  unfolding layout_on
  layout_read = ap layout_in z.master ∙ master_layout y f.range tail_at tail_fits

  pub tail_read : (c : ℕ) → c < l.shape.cores → tail_on d c ≡ tail_at c
  unfolding tail_on
  tail_read c h = ap (λ (m : Bytes). tail_in m c) z.master ∙ master_tail y f.range tail_at tail_fits c h

-- the card's own shape is in range, so it is read as it is
pub shape_up : {l : Ledger} {w : World} → CardUp l w → shape_of w.card ≡ l.shape
unfolding shape_of
shape_up {l} u = ap clamped u.shape ∙ clamped_same l.shape u.well_formed.range

-- a master block is a block of bytes
pub master_block_lem : (y : CommitLayout) {s : Shape} → InRange s → (tail_at : ℕ → Tail) → IsBlock (master_block y s tail_at)
unfolding master_block
master_block_lem y r tail_at = record { size = length_master y r tail_at; bytes = each_is_bytes _ (each_block _) }
