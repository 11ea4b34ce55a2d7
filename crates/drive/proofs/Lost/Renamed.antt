-- Service book and ledger that differ in numbers alone still do so without the lost commits: a cut that loses them keeps the
-- same writes in both.
use Prim.Native.Nat.{ℕ, ◌+◌, ◌-◌, ◌≤◌}
use native.Mathlib.Omega.{arith}
use mathlib.Core.Path.{◌≡◌, ap, ◌∙◌}
use mathlib.Core.Bool.{Bool}
use Rattle.model.specs.Card.{new_name}
use Rattle.model.specs.declared.Name.{Name}
use Rattle.model.proofs.Lists.{cases}
use Rattle.crash.specs.Book.{Book}
use Rattle.crash.proofs.Books.Rename.{Renamed, renamed, renamed_number}
use Rattle.drive.specs.LostCommits.{entry_without, book_without}

pub without_renamed : {shift : ℕ → ℕ} {k k' : Book} → Renamed shift k k' → ((c : ℕ) → 1 ≤ k.uncommitted c) → (lost lost' : Name → Bool)
    → ((t : Name) → lost' (renamed shift t) ≡ lost t) → Renamed shift (book_without lost k) (book_without lost' k')
unfolding book_without
without_renamed {shift} {k} {k'} r low lost lost' same =
    record {
      begun = r.begun;
      opened = r.opened;
      entry = λ t. ap (λ (x : Bool). entry_without x (k'.entry (renamed shift t))) (same t) ∙ ap (entry_without (lost t)) (r.entry t);
      writes = r.writes;
      oldest = r.oldest;
      uncommitted =
          λ c.
          let n = k.uncommitted c in
          let u = r.uncommitted c in
          let e : k'.uncommitted c - 1 ≡ n - 1 + shift c = omega (arith, u, low c) in
          let name : new_name c (k'.uncommitted c - 1) ≡ renamed shift (new_name c (n - 1)) = renamed_number shift c (n - 1) (k'.uncommitted c - 1) e in
          let l : lost' (new_name c (k'.uncommitted c - 1)) ≡ lost (new_name c (n - 1)) = ap lost' name ∙ same (new_name c (n - 1)) in
          cases (lost (new_name c (n - 1))) (λ h. rw (l ∙ h, h) e) (λ h. rw (l ∙ h, h) u);
      next = r.next;
    }
