-- CUT LOSING on a card that is up: whatever is marked, the disk is one from which recovery gives the kept writes of the ledger
-- without the lost commits.
use Prim.Native.Nat.{ℕ, ◌+◌, ◌≤◌, ◌<◌}
use native.Mathlib.Omega.{arith}
use mathlib.Core.Path.{◌≡◌, sym, ap, ◌∙◌}
use mathlib.Core.Logic.{inl, inr}
use mathlib.Core.Bool.{Bool, So}
use mathlib.Core.List.{List}
use lib.ListN.{length, get_or}
use Rattle.model.specs.Bytes.{Bytes, block_at}
use Rattle.model.specs.Shape.{home_block}
use Rattle.model.specs.Card.{down_card}
use Rattle.model.specs.declared.Name.{Name}
use Rattle.model.specs.declared.Tail.{Tail}
use Rattle.model.specs.declared.CommitLayout.TheVariants.{Numbers}
use Rattle.crash.specs.Ledger.{Ledger, cut_ledger}
use Rattle.crash.specs.Claims.{IsBytes}
use Rattle.crash.proofs.Blocks.Invariant.{Inv}
use Rattle.crash.proofs.Blocks.ClosedImages.{Imaged}
use Rattle.crash.proofs.Runs.CutTargets.{held_newest, home_target}
use Rattle.crash.proofs.Disk.Relation.{WellFormed, DiskStands, CardDown}
use Rattle.crash.proofs.Commands.CardCut.{down_over}
use Rattle.crash.proofs.Runs.UpSteps.{retired_below}
use Rattle.drive.specs.Undone.{undone}
use Rattle.drive.proofs.Lost.Undo.{undone_size, undone_bytes, undone_marked, undone_other, undone_each}
use Rattle.drive.specs.Since.{StoreKind, commit_since, lost_since}
use Rattle.drive.specs.LostCommits.{ledger_without}
use Rattle.drive.proofs.Lost.Without.{Last, well_formed_without, imaged_without}
use Rattle.drive.proofs.Lost.Mixed.{last_name, commit_place, Mixed, disk_mixed, inv_lost, held_lost}
use Rattle.drive.proofs.Places.BetweenDisks.{BetweenDisks, lost_since_lem, place_low}

module _ {home : ℕ → Bytes} {l : Ledger} (v : Inv home l) (imaged : Imaged l) (f : WellFormed l) {tail_at : ℕ → Tail} {ks : List StoreKind} {behind now : Bytes}
    (z : DiskStands Numbers l now tail_at) (at_home : (b : ℕ) → b < l.shape.blocks → block_at now (home_block b) ≡ home b)
    {places : List ℕ} {old : Bytes} (s : BetweenDisks l tail_at ks behind now places old) (marked : ℕ → Bool) where
  abbrev since : Name → Bool
  since = commit_since ks

  abbrev lost : Name → Bool
  lost = lost_since marked ks

  abbrev mixed : Bytes
  mixed = undone marked 0 places old now

  sub : (t : Name) → So (lost t) → So (since t)
  sub = lost_since_lem marked ks

  low : (j : ℕ) → j < length places → get_or places j 0 < 257
  low j h = place_low f (s.lies j h)

  few₀ : 0 + length places ≤ 64
  few₀ = omega (arith, s.few)

  from_zero : (j : ℕ) → 0 + j ≡ j
  from_zero j = omega arith

  mixture : Mixed l tail_at since lost behind now mixed
  mixture =
      record {
        size = undone_size marked old now z.size s.size 0 places few₀ low s.apart;
        bytes = undone_bytes marked old now z.bytes s.bytes 0 places;
        each =
            λ k. elim (undone_each marked old now z.size s.size 0 places few₀ low s.apart k) [
              | inl e ↦ inl e
              | inr e ↦ inr (e.3 ∙ ap (block_at old) (from_zero e.0) ∙ s.images e.0 e.1 ∙ ap (block_at behind) e.2)
            ];
        stays =
            λ c h p n.
            let x = s.commits c h p in
            undone_other marked old now z.size s.size 0 places few₀ low s.apart (commit_place l tail_at since c)
            (λ i a e. let q : i ≡ x.index = s.apart i x.index a x.within (e ∙ sym x.place) in ap marked (from_zero i ∙ q) ∙ sym (x.says marked) ∙ n);
        goes =
            λ c h n.
            let x = s.commits c h (sub (last_name l c) n) in
            ap (block_at mixed) (sym x.place)
            ∙ undone_marked marked old now z.size s.size 0 places few₀ low s.apart x.index x.within (ap marked (from_zero x.index) ∙ sym (x.says marked) ∙ n)
            ∙ ap (block_at old) (from_zero x.index)
            ∙ s.images x.index x.within
            ∙ ap (block_at behind) x.place;
      }

  pub losing_up : (m : Bytes) → length m ≡ 16384 → IsBytes m → CardDown (cut_ledger (ledger_without lost l)) (record { card = down_card; disk = mixed; memory = m })
  losing_up =
      let y = s.cached in
      let last₂ : Last l lost = λ t h. y.last t (sub t h) in
      let f₂ = well_formed_without f lost last₂ in
      let v₂ = inv_lost v f since lost y.last sub y.safe in
      let n₂ = retired_below (ledger_without lost l) f₂ in
      down_over f₂ (disk_mixed f since lost y.last sub y.stands z y.single mixture)
      (record {
        held = λ b h m. held_newest v₂ n₂ b (imaged_without l lost imaged) m;
        home =
            λ b h n.
            (elim (mixture.each (home_block b)) [
              | inl e ↦ e
              | inr e ↦ e ∙ y.home_same b h (λ t p. held_lost v f since lost y.last sub y.safe t (y.homing t p).0 (y.homing t p).1 b h n)
            ])
            ∙ at_home b h ∙ home_target v₂ n₂ b h n;
      })
