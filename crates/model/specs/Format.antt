-- FORMAT: 'disk slice zeroed, master written with tail number 1 and position 0 for each core, card up'.
use Rattle.std.specs.Prelude.{ℕ, List, [], ◌∷◌, Bool, not, replicate, None}
use Rattle.model.specs.Limits.{max_cores}
use Rattle.model.specs.Bytes.{Bytes, store, zero_disk, zero_memory}
use Rattle.model.specs.Shape.{new_shape, in_range, checked_answer}
use Rattle.model.specs.Card.{is_blank, new_tail, fresh_card}
use Rattle.model.specs.Layout.{master_block}
use Rattle.model.specs.Command.{World, Outcome, unless, wrong_length}
use Rattle.model.specs.declared.Phase.TheVariants.{Up}
use Rattle.model.specs.declared.Shape.{Shape}
use Rattle.model.specs.declared.CommitLayout.{CommitLayout}
use Rattle.model.specs.declared.CommitLayout.TheVariants.{Numbers}

unfoldable pub format_conditions : ℕ → ℕ → ℕ → World → List (Bool × ℕ)
format_conditions c b j w = (wrong_length w, 1) ∷ (not (is_blank w.card.phase), 21) ∷ (not (in_range c b j), checked_answer None) ∷ []

-- the disk as FORMAT leaves it, its master for this layout: 'Bytes 8 to 11 of a new master hold 1.'
unfoldable pub formatted_disk : CommitLayout → Shape → Bytes
formatted_disk y s = store zero_disk 0 (master_block y s (λ (c : ℕ). new_tail 1 0))

-- FORMAT counts no store, and zeroes memory too
unfoldable pub formatted : Shape → Outcome World
formatted s =
    record {
      answer = 0;
      world =
          record {
            card = fresh_card Up s (replicate max_cores (new_tail 1 0));
            disk = formatted_disk Numbers s;
            memory = zero_memory;
          };
      stores = 0;
    }

unfoldable pub format : ℕ → ℕ → ℕ → World → Outcome World
format c b j w = unless (format_conditions c b j w) w (formatted (new_shape c b j))
