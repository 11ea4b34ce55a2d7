-- What a WRITE finds at a block, what its rule makes of the writer, and the conditions 25, 36, 26 and 27 over both.
use Rattle.std.specs.Prelude.{ℕ, ◌+◌, ◌<◌, Bool, cond, not, ◌&&◌, List, [], ◌∷◌, ltb}
use Rattle.model.specs.Card.{record_size, shape_of, core_of, holder_of, with_block, with_name, holder_name}
use Rattle.model.specs.Write.{writer, writer_name, rule_for, takes_block, takes_past, names_holder, closed_blocks}
use Rattle.model.specs.Limits.{max_taken, max_number}
use Rattle.model.specs.declared.Name.{Name}
use Rattle.model.specs.declared.Transaction.{Transaction}
use Rattle.model.specs.declared.Card.{Card}
use Rattle.model.specs.declared.Rule.{Rule}
use Rattle.rules.specs.declared.RuleMet.{RuleMet}

-- ---- what a WRITE finds
-- that of core c to block b
abbrev pub rule_met : Card → ℕ → ℕ → RuleMet
rule_met x c b = record { core = c; block = b; rule = rule_for x c b; holder = holder_name (holder_of x b); own = writer_name x c }

pub record Bounded (f : RuleMet) : Type 0 where
  pub core : f.core < 8
  pub block : f.block < 64
  pub holder : f.holder.core < 8
  pub own : f.own.core < 8

-- ---- what a rule makes of the writer t
-- it names n where the rule has it name the holder
unfoldable pub named_by : Rule → Transaction → Name → Transaction
named_by r t n = cond (names_holder r) (with_name t n) t

-- it takes the block where the rule asks for it
unfoldable pub taken_by : Rule → Transaction → ℕ → Transaction
taken_by r t b = cond (takes_block r) (with_block t b) t

abbrev pub after_by : Card → RuleMet → Transaction
after_by x f = taken_by f.rule (named_by f.rule (writer x f.core) f.holder) f.block

-- ---- room
-- the blocks of the record of a writer that had n blocks
unfoldable pub size_after : Rule → ℕ → ℕ
size_after r n = cond (takes_block r) (n + 3) (n + 2)

-- 25, 36, 26 and 27, for a WRITE with this limit
abbrev pub room_conditions : Card → ℕ → RuleMet → List (Bool × ℕ)
room_conditions x limit f =
    (takes_past max_taken f.rule (writer x f.core), 25)
    ∷ (takes_past limit f.rule (writer x f.core), 36)
    ∷ (ltb (shape_of x).journal (closed_blocks (core_of x f.core) + record_size (after_by x f)), 26)
    ∷ (not (core_of x f.core).running.live && ltb max_number f.own.number, 27)
    ∷ []
