-- A disk from elsewhere, which no run leaves: the master says that core 0's next number is 1, and at its tail stands a whole record of
-- number 2. Recovery finds no record and brings the card up; its closing master says 2. So a cut after that finds the record and brings
-- back another home area: what `RecoveryClaims` says ends where the card is up.
use Prim.Native.Nat.{ℕ}
use mathlib.Core.Path.{◌≡◌, refl, ap}
use mathlib.Core.Bool.{true}
use mathlib.Core.List.{[], ◌∷◌}
use lib.ListN.{get_or, replicate}
use native.Mathlib.Omega.{arith}
use mathlib.Core.Logic.{◌≢◌}
use Rattle.model.specs.Bytes.{Bytes, padded, zero_memory}
use Rattle.model.specs.Shape.{new_shape}
use Rattle.model.specs.Card.{is_up, down_card}
use Rattle.model.specs.Layout.{new_tag, descriptor_block, commit_block}
use Rattle.model.specs.Format.{formatted_disk}
use Rattle.model.specs.Command.{World}
use Rattle.model.specs.Recovery.{cut, home_area}
use Rattle.model.specs.RecoveryClaims.{Unbegun, recovers_from}
use Rattle.model.specs.declared.Shape.{Shape}
use Rattle.model.specs.declared.CommitLayout.TheVariants.{Numbers}
use Rattle.model.proofs.Computes.{computes}
use Rattle.model.proofs.Journal.{stores_at}

abbrev shape : Shape
shape = new_shape 1 1 10

unfoldable pub foreign_image : Bytes
foreign_image = padded (0x41 ∷ 0x42 ∷ 0x43 ∷ 0x44 ∷ [])

unfoldable pub foreign_disk : Bytes
foreign_disk =
    stores_at shape 0 0 (descriptor_block 2 (new_tag 0 0 ∷ []) ∷ foreign_image ∷ commit_block 2 1 (λ (c : ℕ). 0) ∷ []) (formatted_disk Numbers shape)

-- a card down over it; one RECOVER; then a CUT and two of them
unfoldable pub begun : World
begun = record { card = down_card; disk = foreign_disk; memory = zero_memory }

unfoldable pub once_up : World
once_up = recovers_from 1 begun

unfoldable pub up_again : World
up_again = recovers_from 2 (cut once_up).world

unfoldable foreign_computes : Unit {0}
unfolding computes stores_at foreign_image foreign_disk begun once_up up_again
foreign_computes = tt

pub begun_down : Unbegun begun
unfolding foreign_computes
begun_down = record { over = record { down = refl; memory = refl; size = refl; fit = refl }; none_passed = refl }

pub first_area : (is_up once_up.card.phase ≡ true) × (home_area 1 once_up ≡ replicate 128 0)
unfolding foreign_computes
first_area = (refl, refl)

pub second_area : (is_up up_again.card.phase ≡ true) × (home_area 1 up_again ≡ foreign_image)
unfolding foreign_computes
second_area = (refl, refl)

pub other_area : home_area 1 once_up ≢ home_area 1 up_again
unfolding foreign_computes
other_area e = let z : ◌≡◌ {A = ℕ} 0 0x41 = ap (λ (a : Bytes). get_or a 0 0) e in omega arith
