-- A slice of an array's length lent as that array: what it holds.
use mathlib.Core.Path.{◌≡◌, subst}
use Rattle.std.proofs.Common.{ℕ, List}
use Rattle.std.specs.Prelude.{Option, Some}
use Rattle.std.specs.Option.{MatchOption}
use Rattle.std.specs.Array.{IsWholeChunk}
use denote.Ref.{Bor, MutBor}

-- lent to be read
pub whole_read : (m : List ℕ) (n : ℕ) (P : Type 0) (r : Option (Bor (List ℕ))) (y : Bor (List ℕ))
    → MatchOption r P (λ (x : Bor (List ℕ)). IsWholeChunk m x.now n) → r ≡ Some y → y.now ≡ m
whole_read m n P r y c e = (subst (λ (o : Option (Bor (List ℕ))). MatchOption o P (λ (x : Bor (List ℕ)). IsWholeChunk m x.now n)) e c).same

-- lent to be written
pub whole_written : (m : List ℕ) (n : ℕ) (P : Type 0) (r : Option (MutBor (List ℕ))) (y : MutBor (List ℕ))
    → MatchOption r P (λ (x : MutBor (List ℕ)). IsWholeChunk m x.now n) → r ≡ Some y → y.now ≡ m
whole_written m n P r y c e = (subst (λ (o : Option (MutBor (List ℕ))). MatchOption o P (λ (x : MutBor (List ℕ)). IsWholeChunk m x.now n)) e c).same
