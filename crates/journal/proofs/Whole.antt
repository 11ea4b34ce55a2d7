-- A slice taken as an array is the same bytes.
use Rattle.std.specs.Prelude.{ℕ, ◌≡◌, Result, Ok}
use Rattle.std.proofs.Common.{subst}
use Rattle.std.specs.Result.{MatchResult}
use Rattle.std.specs.Array.{IsWholeChunk}
use denote.Ref.{Bor}
use Rattle.model.specs.Bytes.{Bytes}

pub whole_is : {E : Type 0} (Q : E → Type 0) (r : Result (Bor Bytes) E) (d : Bytes) (n : ℕ) → MatchResult r (λ (y : Bor Bytes). IsWholeChunk d y.now n) Q
    → (y : Bor Bytes) → r ≡ Ok y → y.now ≡ d
whole_is {E} Q r d n m y e = (subst (λ (z : Result (Bor Bytes) E). MatchResult z (λ (y : Bor Bytes). IsWholeChunk d y.now n) Q) e m).same
