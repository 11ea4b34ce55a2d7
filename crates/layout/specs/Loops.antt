-- What a loop over an index finds, by the tests of lists.
use Rattle.std.specs.Prelude.{ℕ, Bool}
use Rattle.model.specs.Lists.{below, all, any}

-- the test holds at each index below n
unfoldable pub every : ℕ → (ℕ → Bool) → Bool
every n p = all p (below n)

-- the test holds at some index below n
unfoldable pub some : ℕ → (ℕ → Bool) → Bool
some n p = any p (below n)
