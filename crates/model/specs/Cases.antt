-- Section 'Cases': the nine as one table. Each has its tape, what is printed, and core 0's next number.
use Rattle.std.specs.Prelude.{ℕ, List, [], ◌∷◌}
use Rattle.model.specs.Bytes.{Bytes}
use Rattle.model.specs.Card.{core_of}
use Rattle.model.specs.Tape.{run, world_after}
use Rattle.model.specs.Valid.{Order}
use Rattle.model.specs.Step.{step_at_by}
use Rattle.model.specs.Printing.{Line, Page, printed, blank_world}

pub record Case : Type 0 where
  pub tape : Bytes
  pub prints : Page
  pub next : ℕ

abbrev pub line : ℕ → ℕ → ℕ → ℕ → Line
line offset byte answer stores = record { offset = offset; byte = byte; answer = answer; stores = stores }

abbrev pub case : Bytes → List Line → List (ℕ × Bytes) → ℕ → Case
case tape lines homes next = record { tape = tape; prints = record { lines = lines; homes = homes }; next = next }

-- what the definitions make of a tape, under a rule
unfoldable pub outcome_of : Order → Bytes → Case
outcome_of o t =
    let f = step_at_by o in
    record { tape = t; prints = printed f t blank_world; next = (core_of (world_after blank_world (run f t blank_world)).card 0).next }

unfoldable pub cases : List Case
cases =
    -- P1 this tape
    case
    (1 ∷ 2 ∷ 4 ∷ 0x0C ∷ 2 ∷ 0 ∷ 0 ∷ 3 ∷ 0 ∷ 0x41 ∷ 0x42 ∷ 0x43 ∷ 0x44 ∷ 2 ∷ 1 ∷ 0 ∷ 3 ∷ 4 ∷ 0x45 ∷ 0x46 ∷ 0x47 ∷ 0x48 ∷ 3 ∷ 0 ∷ 4 ∷ 0 ∷ 4 ∷ 0 ∷
    4 ∷ 0 ∷ 5 ∷ 0 ∷ 3 ∷ 1 ∷ 4 ∷ 1 ∷ 4 ∷ 1 ∷ 6 ∷ 7 ∷ 7 ∷ [])
    (line 0 1 0 0 ∷ line 4 2 0 0 ∷ line 13 2 0 0 ∷ line 22 3 0 0 ∷ line 24 4 0 1 ∷ line 26 4 0 2 ∷ line 28 4 0 3 ∷ line 30 5 32 3 ∷
    line 32 3 0 3 ∷ line 34 4 0 4 ∷ line 36 4 0 5 ∷ line 38 6 0 5 ∷ line 39 7 0 6 ∷ line 40 7 0 7 ∷ [])
    ((3, 0x41 ∷ 0x42 ∷ 0x43 ∷ 0x44 ∷ 0x45 ∷ 0x46 ∷ 0x47 ∷ 0x48 ∷ []) ∷ []) 3
    -- P2 without the second `04 01`: one RECOVER brings the card up, no block line
    ∷ case
    (1 ∷ 2 ∷ 4 ∷ 0x0C ∷ 2 ∷ 0 ∷ 0 ∷ 3 ∷ 0 ∷ 0x41 ∷ 0x42 ∷ 0x43 ∷ 0x44 ∷ 2 ∷ 1 ∷ 0 ∷ 3 ∷ 4 ∷ 0x45 ∷ 0x46 ∷ 0x47 ∷ 0x48 ∷ 3 ∷ 0 ∷ 4 ∷ 0 ∷ 4 ∷ 0 ∷
    4 ∷ 0 ∷ 5 ∷ 0 ∷ 3 ∷ 1 ∷ 4 ∷ 1 ∷ 6 ∷ 7 ∷ 7 ∷ [])
    (line 0 1 0 0 ∷ line 4 2 0 0 ∷ line 13 2 0 0 ∷ line 22 3 0 0 ∷ line 24 4 0 1 ∷ line 26 4 0 2 ∷ line 28 4 0 3 ∷ line 30 5 32 3 ∷
    line 32 3 0 3 ∷ line 34 4 0 4 ∷ line 36 6 0 4 ∷ line 37 7 0 5 ∷ line 38 7 23 5 ∷ [])
    ([]) 3
    -- P3 offset 124 done, 125 gives 7
    ∷ case
    (1 ∷ 1 ∷ 1 ∷ 4 ∷ 2 ∷ 0 ∷ 0 ∷ 0 ∷ 0x7C ∷ 0x41 ∷ 0x42 ∷ 0x43 ∷ 0x44 ∷ 2 ∷ 0 ∷ 0 ∷ 0 ∷ 0x7D ∷ 0x41 ∷ 0x42 ∷ 0x43 ∷ 0x44 ∷ [])
    (line 0 1 0 0 ∷ line 4 2 0 0 ∷ line 13 2 7 0 ∷ [])
    ([]) 1
    -- P4 J = 4, core 0 writes blocks 0, 1, 2: the third gives 26
    ∷ case
    (1 ∷ 1 ∷ 4 ∷ 4 ∷ 2 ∷ 0 ∷ 0 ∷ 0 ∷ 0 ∷ 0x41 ∷ 0x42 ∷ 0x43 ∷ 0x44 ∷ 2 ∷ 0 ∷ 0 ∷ 1 ∷ 0 ∷ 0x41 ∷ 0x42 ∷ 0x43 ∷ 0x44 ∷
    2 ∷ 0 ∷ 0 ∷ 2 ∷ 0 ∷ 0x41 ∷ 0x42 ∷ 0x43 ∷ 0x44 ∷ [])
    (line 0 1 0 0 ∷ line 4 2 0 0 ∷ line 13 2 0 0 ∷ line 22 2 26 0 ∷ [])
    ([]) 1
    -- P5 eight blocks done, ninth gives 25 (J = 24)
    ∷ case
    (1 ∷ 1 ∷ 0x10 ∷ 0x18 ∷ 2 ∷ 0 ∷ 0 ∷ 0 ∷ 0 ∷ 0x41 ∷ 0x42 ∷ 0x43 ∷ 0x44 ∷ 2 ∷ 0 ∷ 0 ∷ 1 ∷ 0 ∷ 0x41 ∷ 0x42 ∷ 0x43 ∷ 0x44 ∷
    2 ∷ 0 ∷ 0 ∷ 2 ∷ 0 ∷ 0x41 ∷ 0x42 ∷ 0x43 ∷ 0x44 ∷ 2 ∷ 0 ∷ 0 ∷ 3 ∷ 0 ∷ 0x41 ∷ 0x42 ∷ 0x43 ∷ 0x44 ∷
    2 ∷ 0 ∷ 0 ∷ 4 ∷ 0 ∷ 0x41 ∷ 0x42 ∷ 0x43 ∷ 0x44 ∷ 2 ∷ 0 ∷ 0 ∷ 5 ∷ 0 ∷ 0x41 ∷ 0x42 ∷ 0x43 ∷ 0x44 ∷
    2 ∷ 0 ∷ 0 ∷ 6 ∷ 0 ∷ 0x41 ∷ 0x42 ∷ 0x43 ∷ 0x44 ∷ 2 ∷ 0 ∷ 0 ∷ 7 ∷ 0 ∷ 0x41 ∷ 0x42 ∷ 0x43 ∷ 0x44 ∷
    2 ∷ 0 ∷ 0 ∷ 8 ∷ 0 ∷ 0x41 ∷ 0x42 ∷ 0x43 ∷ 0x44 ∷ [])
    (line 0 1 0 0 ∷ line 4 2 0 0 ∷ line 13 2 0 0 ∷ line 22 2 0 0 ∷ line 31 2 0 0 ∷ line 40 2 0 0 ∷ line 49 2 0 0 ∷ line 58 2 0 0 ∷
    line 67 2 0 0 ∷ line 76 2 25 0 ∷ [])
    ([]) 1
    -- P6 core 0's number 1 committed, 2 running, cut and recovered: its next number is 3
    ∷ case
    (1 ∷ 1 ∷ 4 ∷ 0x0C ∷ 2 ∷ 0 ∷ 0 ∷ 0 ∷ 0 ∷ 0x41 ∷ 0x42 ∷ 0x43 ∷ 0x44 ∷ 3 ∷ 0 ∷ 4 ∷ 0 ∷ 4 ∷ 0 ∷ 4 ∷ 0 ∷
    2 ∷ 0 ∷ 0 ∷ 1 ∷ 0 ∷ 0x45 ∷ 0x46 ∷ 0x47 ∷ 0x48 ∷ 6 ∷ 7 ∷ 7 ∷ [])
    (line 0 1 0 0 ∷ line 4 2 0 0 ∷ line 13 3 0 0 ∷ line 15 4 0 1 ∷ line 17 4 0 2 ∷ line 19 4 0 3 ∷ line 21 2 0 3 ∷ line 30 6 0 3 ∷
    line 31 7 0 4 ∷ line 32 7 0 5 ∷ [])
    ((0, 0x41 ∷ 0x42 ∷ 0x43 ∷ 0x44 ∷ 0 ∷ 0 ∷ 0 ∷ 0 ∷ []) ∷ []) 3
    -- P7 core 1 takes block 0 from closed (0,1), both commit: checkpoint of core 1 gives 33, of core 0 is done
    ∷ case
    (1 ∷ 2 ∷ 4 ∷ 0x0C ∷ 2 ∷ 0 ∷ 0 ∷ 0 ∷ 0 ∷ 0x41 ∷ 0x42 ∷ 0x43 ∷ 0x44 ∷ 3 ∷ 0 ∷ 2 ∷ 1 ∷ 0 ∷ 0 ∷ 0 ∷ 0x45 ∷ 0x46 ∷ 0x47 ∷ 0x48 ∷ 4 ∷ 0 ∷ 4 ∷ 0 ∷
    4 ∷ 0 ∷ 3 ∷ 1 ∷ 4 ∷ 1 ∷ 4 ∷ 1 ∷ 4 ∷ 1 ∷ 5 ∷ 1 ∷ 5 ∷ 0 ∷ [])
    (line 0 1 0 0 ∷ line 4 2 0 0 ∷ line 13 3 0 0 ∷ line 15 2 0 0 ∷ line 24 4 0 1 ∷ line 26 4 0 2 ∷ line 28 4 0 3 ∷ line 30 3 0 3 ∷
    line 32 4 0 4 ∷ line 34 4 0 5 ∷ line 36 4 0 6 ∷ line 38 5 33 6 ∷ line 40 5 0 7 ∷ [])
    ((0, 0x41 ∷ 0x42 ∷ 0x43 ∷ 0x44 ∷ 0 ∷ 0 ∷ 0 ∷ 0 ∷ []) ∷ []) 2
    -- P8 data beginning with the mark comes back whole
    ∷ case
    (1 ∷ 1 ∷ 4 ∷ 0x0C ∷ 2 ∷ 0 ∷ 0 ∷ 1 ∷ 0 ∷ 0xC0 ∷ 0x3B ∷ 0x39 ∷ 0x98 ∷ 2 ∷ 0 ∷ 0 ∷ 1 ∷ 4 ∷ 1 ∷ 2 ∷ 3 ∷ 4 ∷ 3 ∷ 0 ∷ 4 ∷ 0 ∷ 4 ∷ 0 ∷ 4 ∷ 0 ∷ 6 ∷
    7 ∷ 7 ∷ [])
    (line 0 1 0 0 ∷ line 4 2 0 0 ∷ line 13 2 0 0 ∷ line 22 3 0 0 ∷ line 24 4 0 1 ∷ line 26 4 0 2 ∷ line 28 4 0 3 ∷ line 30 6 0 3 ∷
    line 31 7 0 4 ∷ line 32 7 0 5 ∷ [])
    ((1, 0xC0 ∷ 0x3B ∷ 0x39 ∷ 0x98 ∷ 1 ∷ 2 ∷ 3 ∷ 4 ∷ []) ∷ []) 3
    -- P9 an empty tape prints nothing
    ∷ case
    ([])
    ([])
    ([]) 0
    ∷ []
