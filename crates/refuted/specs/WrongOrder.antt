-- Cards that go wrong by paper 02's (c): 'every transaction also depends on the one before it on its core since the card came up', read
-- so 'in running as in recovery'.
use Rattle.std.specs.Prelude.{◌&&◌, ◌||◌, leb}
use Rattle.model.specs.Journal.{name_of}
use Rattle.model.specs.Shrink.{strike, shrink}
use Rattle.model.specs.Valid.{unordered, in_sequence, predecessor, is_in, is_met, names_met, valid_set}
use Rattle.model.specs.Command.{World}
use Rattle.model.specs.Tape.{Step}
use Rattle.refuted.specs.Parts.{by_orders, valid_by}

-- the rule in recovery alone, in running alone: it changes at a cut
abbrev pub in_recovery_alone : Step World
in_recovery_alone = by_orders unordered in_sequence

abbrev pub in_running_alone : Step World
in_running_alone = by_orders in_sequence unordered

-- one round of it: of those whose names are met, each whose predecessor is met among them
abbrev pub one_round : Step World
one_round = valid_by (λ y s d tail_at es. strike (λ vs e. is_met tail_at vs (predecessor (name_of e))) (valid_set unordered y s d tail_at es))

-- the predecessor asked for below the tail too; number 1 has none
abbrev pub asked_below_tail : Step World
asked_below_tail =
    valid_by (λ y s d tail_at es. shrink (λ vs e. names_met unordered y s d tail_at vs e && (leb e.number 1 || is_in vs (predecessor (name_of e)))) es)
