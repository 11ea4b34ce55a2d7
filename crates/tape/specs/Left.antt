-- What is left of the bytes read.
use Rattle.std.specs.Prelude.{ℕ, zero, suc, List, ◌≡◌, false, drop}
use Rattle.model.specs.Tape.{is_early, read_at, next_offset}

-- what lies behind n commands, each of which was all there
abbrev pub LiesBehind : ℕ → List ℕ → List ℕ → Type 0
LiesBehind zero read left = left ≡ read
LiesBehind (suc n) read left = (is_early (read_at read 0) ≡ false) × LiesBehind n (drop (next_offset read 0) read) left

-- whole commands in front are passed over, and nothing else
abbrev pub IsLeft : List ℕ → List ℕ → Type 0
IsLeft left read = (n : ℕ) × LiesBehind n read left
