-- Cards that go wrong by paper 02's (h): the report task 'may never take a block where the running transaction already has three', '36 ..
-- comes directly after 25'.
use Rattle.std.specs.Prelude.{ℕ, ◌++◌, Bool, not, ◌||◌, eqb}
use Rattle.model.specs.Lists.{select}
use Rattle.model.specs.Limits.{max_report_taken}
use Rattle.model.specs.Valid.{in_sequence}
use Rattle.model.specs.Command.{World, unless}
use Rattle.model.specs.Write.{rule_for, takes_block, is_named_back, loads_image}
use Rattle.model.specs.Tape.{Step}
use Rattle.model.specs.Step.{conditions_of, done_by}
use Rattle.model.specs.declared.Rule.{Rule}
use Rattle.refuted.specs.Parts.{other_report, limit_asking}
use Rattle.refuted.specs.Wrong.{unnamed_where}

-- 'already has three': four
abbrev pub from_four : Step World
from_four = other_report (limit_asking takes_block 4)

-- 'take a block': one without a holder alone; a closed holder's is not counted as taken
abbrev pub free_alone : Step World
free_alone = other_report (limit_asking loads_image max_report_taken)

-- 'A block already held by that transaction may be written by either': not by byte 9
abbrev pub held_too : Step World
held_too = other_report (limit_asking (λ (r : Rule). not (is_named_back r)) max_report_taken)

-- .. and a block that another running transaction holds, which is not taken
abbrev pub running_too : Step World
running_too = other_report (limit_asking (λ (r : Rule). takes_block r || is_named_back r) max_report_taken)

-- 'the report task's block limit': command 2's too
abbrev pub lamp_too : Step World
lamp_too = limit_asking takes_block max_report_taken

-- 'directly after 25': after 26 and 27
abbrev is_limit : Bool × ℕ → Bool
is_limit t = eqb t.1 36

abbrev pub after26 : Step World
after26 k w =
    let ts = conditions_of in_sequence k w in
    unless (select (λ t. not (is_limit t)) ts ++ select is_limit ts) w (done_by in_sequence k w)

-- 'Such writes count as issued writes in what a cut brings back': byte 9 takes a closed holder's block and does not name it
abbrev pub unnamed_closed : Step World
unnamed_closed = other_report (unnamed_where (λ x c b. takes_block (rule_for x c b)))
