-- A shape within its limits: what the test says, and that clamping gives one and changes none.
use Prim.Native.Nat.{ℕ, ◌≤◌}
use native.Mathlib.Omega.{arith}
use native.Mathlib.Decide.{dec_lt}
use mathlib.Core.Path.{◌≡◌, refl}
use mathlib.Core.Bool.{true, ◌&&◌}
use lib.Dec.{leb}
use borrow.Author.Tests.{lt-ltb, le-ltb, le-leb, leb-true}
use Rattle.model.proofs.Lists.{and_left, and_right}
use Rattle.model.specs.Shape.{between, in_range, nearest, clamped}
use Rattle.model.specs.declared.Shape.{Shape}

pub record InRange (s : Shape) : Type 0 where
  pub a_core : 1 ≤ s.cores
  pub few_cores : s.cores ≤ 8
  pub a_block : 1 ≤ s.blocks
  pub few_blocks : s.blocks ≤ 64
  pub long : 4 ≤ s.journal
  pub short : s.journal ≤ 24

pub record Nearest (low x high : ℕ) : Type 0 where
  pub above : low ≤ nearest low x high
  pub under : nearest low x high ≤ high
  pub same : low ≤ x → x ≤ high → nearest low x high ≡ x

pub nearest_within : (low x high : ℕ) → low ≤ high → Nearest low x high
unfolding nearest
nearest_within low x high h =
    elim (dec_lt x low) [
      | yes l ↦ record { above = rw (lt-ltb x low l) (omega arith); under = rw (lt-ltb x low l) h; same = λ a b. absurd (omega arith) }
      | no g ↦ (let n : low ≤ x = omega arith in
          elim (dec_lt high x) [
            | yes m ↦ record { above = rw (le-ltb x low n, lt-ltb high x m) h; under = rw (le-ltb x low n, lt-ltb high x m) (omega arith); same = λ a b. absurd (omega arith) }
            | no k ↦ (let z : x ≤ high = omega arith in
                record { above = rw (le-ltb x low n, le-ltb high x z) n; under = rw (le-ltb x low n, le-ltb high x z) z; same = λ a b. rw (le-ltb x low n, le-ltb high x z) refl })
          ])
    ]

pub clamped_range : (s : Shape) → InRange (clamped s)
unfolding clamped
clamped_range s =
    let c = nearest_within 1 s.cores 8 (omega arith) in
    let b = nearest_within 1 s.blocks 64 (omega arith) in
    let j = nearest_within 4 s.journal 24 (omega arith) in
    record { a_core = c.above; few_cores = c.under; a_block = b.above; few_blocks = b.under; long = j.above; short = j.under }

pub clamped_same : (s : Shape) → InRange s → clamped s ≡ s
unfolding clamped
clamped_same s r =
    rw (
      (nearest_within 1 s.cores 8 (omega arith)).same r.a_core r.few_cores,
      (nearest_within 1 s.blocks 64 (omega arith)).same r.a_block r.few_blocks,
      (nearest_within 4 s.journal 24 (omega arith)).same r.long r.short,
    )

-- ---- the test and the limits are the same
pub between_known : (low x high : ℕ) → between low x high ≡ true → (low ≤ x) × (x ≤ high)
unfolding between
between_known low x high h = (leb-true low x (and_left _ _ h), leb-true x high (and_right (leb low x) _ h))

pub range_test : (s : Shape) → in_range s.cores s.blocks s.journal ≡ true → InRange s
unfolding in_range
range_test s h =
    let cb = and_left _ _ h in
    let c = between_known 1 s.cores 8 (and_left _ _ cb) in
    let b = between_known 1 s.blocks 64 (and_right (between 1 s.cores 8) _ cb) in
    let j = between_known 4 s.journal 24 (and_right (between 1 s.cores 8 && between 1 s.blocks 64) _ h) in
    record { a_core = c.0; few_cores = c.1; a_block = b.0; few_blocks = b.1; long = j.0; short = j.1 }

pub test_range : (s : Shape) → InRange s → in_range s.cores s.blocks s.journal ≡ true
unfolding in_range between
test_range s r =
    rw (
      le-leb 1 s.cores r.a_core,
      le-leb s.cores 8 r.few_cores,
      le-leb 1 s.blocks r.a_block,
      le-leb s.blocks 64 r.few_blocks,
      le-leb 4 s.journal r.long,
      le-leb s.journal 24 r.short,
    )
