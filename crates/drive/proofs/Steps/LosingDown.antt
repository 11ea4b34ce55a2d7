-- CUT LOSING on a card that is down: home stores of recovery that are lost are of blocks that recovery stores again.
use Prim.Native.Nat.{ℕ, ◌+◌}
use native.Mathlib.Omega.{arith}
use mathlib.Core.Path.{◌≡◌, sym, ap, ◌∙◌}
use mathlib.Core.Logic.{◌⊎◌, inl, inr}
use mathlib.Core.List.{Memᴰ}
use lib.ListN.{length}
use lib.Dec.{eqb}
use Rattle.model.specs.Lists.{any}
use Rattle.model.specs.Bytes.{Bytes, block_at}
use Rattle.model.specs.Shape.{home_block, journal_block}
use Rattle.model.specs.Card.{down_card}
use Rattle.model.specs.Layout.{has_head}
use Rattle.model.specs.Journal.{journal_at}
use Rattle.model.specs.Command.{World}
use Rattle.model.proofs.Journal.{home_apart}
use Rattle.crash.specs.Ledger.{Ledger, blocks_in, cut_ledger}
use Rattle.crash.specs.Claims.{IsBytes}
use Rattle.crash.proofs.Books.Tests.{clash, in_any, block_equality}
use Rattle.crash.proofs.Disk.Relation.{DiskStands, CardDown}
use Rattle.crash.proofs.Commands.CardCut.{down_over, down_gives, held_low}

module _ {l : Ledger} {w : World} (v : CardDown l w) (mixed : Bytes) (size : length mixed ≡ 32896) (bytes : IsBytes mixed)
    -- each block is as it is, or a home block held in the valid set
    (each : (k : ℕ) → (block_at mixed k ≡ block_at w.disk k) ⊎ ((b : ℕ) × (k ≡ home_block b) × Memᴰ b (blocks_in l.shape.blocks l.book))) where
  journals_same : (c q : ℕ) → journal_at l.shape mixed c q ≡ journal_at l.shape w.disk c q
  unfolding journal_at
  journals_same c q =
      elim (each (journal_block l.shape c q)) [
        | inl e ↦ e
        | inr e ↦ absurd (home_apart l.shape c q (home_block e.0) (omega (arith, held_low l.shape.blocks l.book e.2)) (sym e.1))
      ]

  stands_same : DiskStands v.layout l mixed v.tail_at
  stands_same =
      record {
        size = size;
        bytes = bytes;
        master = elim (each 0) [ inl e ↦ e ∙ v.disk.master | inr e ↦ absurd (let q = e.1 in omega arith) ];
        numbered = v.disk.numbered;
        journals =
            λ c h.
            let j = v.disk.journals c h in
            record {
              number = j.number;
              position = j.position;
              stands = λ q g. journals_same c ((v.tail_at c).position + q) ∙ j.stands q g;
              clear = λ i q g. ap (has_head 2 i) (journals_same c q) ∙ j.clear i q g;
              room = j.room;
              reserved = j.reserved;
            };
      }

  pub losing_down : (m : Bytes) → length m ≡ 16384 → IsBytes m → CardDown (cut_ledger l) (record { card = down_card; disk = mixed; memory = m })
  losing_down =
      let g = down_gives v in
      down_over v.well_formed stands_same
      (record {
        held = g.held;
        home =
            λ b h n.
            (elim (each (home_block b)) [
              | inl e ↦ e
              | inr e ↦ (let q : b ≡ e.0 = (let p = e.1 in omega arith) in clash (ap (λ (i : ℕ). any (eqb i) (blocks_in l.shape.blocks l.book)) q ∙ in_any block_equality e.2) n)
            ])
            ∙ g.home b h n;
      })
