-- Where the last store since the barrier is a master store: nothing was stored after it, so without it what was shown before it holds, and
-- with it the disk behind the barrier has it too.
use Prim.Native.Nat.{ℕ, suc, ◌+◌, ◌*◌, ◌≤◌, ◌<◌}
use native.Mathlib.Omega.{arith}
use native.Mathlib.Decide.{ℕ_discrete}
use mathlib.Core.Path.{◌≡◌, refl, ap, ◌∙◌}
use mathlib.Core.Logic.{◌≢◌}
use mathlib.Core.Bool.{Bool, cond}
use mathlib.Core.List.{List, [], ◌∷◌, ◌++◌}
use lib.ListN.{length, get_or}
use borrow.Author.Tests.{ne_eqb}
use Rattle.model.specs.Bytes.{Bytes, block_at, store}
use Rattle.model.specs.declared.Tail.{Tail}
use Rattle.model.proofs.Lists.{cases}
use Rattle.model.proofs.Store.{length_store, block_stored, block_other, length_block_at, ext_blocks, store_twice}
use Rattle.crash.specs.Ledger.{Ledger}
use Rattle.crash.specs.Claims.{IsBytes}
use Rattle.crash.proofs.Disk.BlockBytes.{bytes_store}
use Rattle.drive.specs.Since.{StoreKind}
use Rattle.drive.specs.Undone.{stands_later, undone}
use Rattle.drive.proofs.Places.BetweenDisks.{BetweenDisks}

-- the slice past the last image does not matter
pub between_slice : {l : Ledger} {tail_at : ℕ → Tail} {ks : List StoreKind} {behind now : Bytes} {places : List ℕ} {old : Bytes} → BetweenDisks l tail_at ks behind now places old
    → length places < 64 → (x : Bytes) → length x ≡ 128 → IsBytes x → BetweenDisks l tail_at ks behind now places (store old (length places) x)
between_slice {places = places} {old = old} s few x size bytes =
    let fits : 128 * length places + 128 ≤ length old = omega (arith, s.size) in
    record {
      cached = s.cached;
      count = s.count;
      few = s.few;
      lies = s.lies;
      apart = s.apart;
      size = length_store old (length places) x fits size ∙ s.size;
      bytes = bytes_store old (length places) x s.bytes bytes;
      images = λ j h. block_other old (length places) x fits size j (λ e. omega arith) ∙ s.images j h;
      same = s.same;
      commits = s.commits;
      parts = s.parts;
      homes = s.homes;
    }

-- ---- the last store undone first
module _ (marked : ℕ → Bool) (p : ℕ) where
  later_append : (q i : ℕ) (ps : List ℕ) → q ≢ p → stands_later marked q i (ps ++ (p ∷ [])) ≡ stands_later marked q i ps
  unfolding stands_later
  later_append q i [] ne = rw (ne_eqb q p ne) refl
  later_append q i (r ∷ ps) ne = rw (later_append q (suc i) ps ne) refl

  undone_append : (old d : Bytes) (i : ℕ) (ps : List ℕ) → ((j : ℕ) → j < length ps → get_or ps j 0 ≢ p)
      → undone marked i (ps ++ (p ∷ [])) old d ≡ undone marked i ps old (cond (marked (i + length ps)) (store d p (block_at old (i + length ps))) d)
  unfolding undone stands_later
  undone_append old d i [] h = let e : i + 0 ≡ i = omega arith in rw e (cases (marked i) (λ a. rw a refl) (λ a. rw a refl))
  undone_append old d i (q ∷ ps) h =
      let e : i + suc (length ps) ≡ suc i + length ps = omega arith in
      rw (later_append q (suc i) ps (h 0 (omega arith)), undone_append old d (suc i) ps (λ j a. h (suc j) (omega arith)), e) refl

-- a block stored and given back
pub given_back : (d : Bytes) (k : ℕ) (b : Bytes) → length d ≡ 32896 → k < 257 → length b ≡ 128 → store (store d k b) k (block_at d k) ≡ d
given_back d k b size low long =
    let fits : 128 * k + 128 ≤ length d = omega arith in
    let was : length (block_at d k) ≡ 128 = length_block_at 257 d (omega arith) k low in
    store_twice 257 d (omega arith) k b low long (block_at d k) was
    ∙ ext_blocks 257 (store d k (block_at d k)) d (length_store d k (block_at d k) fits was ∙ size) size
    (λ i h. elim (ℕ_discrete i k) [
      | yes e ↦ rw e (block_stored d k (block_at d k) fits was)
      | no ne ↦ block_other d k (block_at d k) fits was i ne
    ])

pub undone_last : (marked : ℕ → Bool) (p : ℕ) (old d : Bytes) (ps : List ℕ) → ((j : ℕ) → j < length ps → get_or ps j 0 ≢ p)
    → undone marked 0 (ps ++ (p ∷ [])) old d ≡ undone marked 0 ps old (cond (marked (length ps)) (store d p (block_at old (length ps))) d)
undone_last marked p old d ps h =
    let e : 0 + length ps ≡ length ps = omega arith in
    undone_append marked p old d 0 ps h ∙ ap (λ (n : ℕ). undone marked 0 ps old (cond (marked n) (store d p (block_at old n)) d)) e
