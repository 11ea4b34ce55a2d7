-- What a change of one entry, a raised number and the four rules of WRITE leave of a book's entries, and what of these
-- the holders and the blocks of the records depend on: stages decide who holds, blocks how long a record is.
-- So a command that changes neither of an entry changes nothing of these.
use Prim.Native.Nat.{ℕ, zero, suc, ◌+◌, ◌≤◌, ◌<◌}
use native.Mathlib.Omega.{arith}
use mathlib.Core.Path.{◌≡◌, refl, sym, ap, ◌∙◌, subst}
use mathlib.Core.Logic.{◌⊎◌, inl, inr, ◌≢◌}
use mathlib.Core.Bool.{Bool, true, false, cond}
use mathlib.Core.List.{List, [], ◌∷◌, ◌++◌, Memᴰ}
use mathlib.Core.Option.{Option, none, some}
use lib.ListN.{length}
use lib.Dec.{eqb}
use borrow.Author.Tests.{eq-eqb, ne_eqb}
use Rattle.model.specs.Lists.{any}
use Rattle.model.specs.Card.{new_name, same_name}
use Rattle.model.specs.declared.Name.{Name}
use Rattle.model.proofs.Lists.{cases}
use Rattle.model.proofs.Valid.{same_name_true, same_name_refl}
use Rattle.crash.specs.Book.{is_closed, is_retired, Entry, Write, Book, change, raise, taking, naming, book_holder, Meeting, no_holder, own, running_holder, closed_holder, meets, ruled, Stage, absent, running, closed, committed, retired}
use Rattle.crash.specs.Ledger.{record_blocks}
use Rattle.crash.proofs.Books.Tests.{impossible, clash}

-- ---- names
-- core c's running transaction, or the next to open; its first uncommitted one; its oldest unretired one
abbrev pub next_name : ℕ → Book → Name
next_name c k = new_name c (k.next c)

abbrev pub uncommitted_name : ℕ → Book → Name
uncommitted_name c k = new_name c (k.uncommitted c)

abbrev pub oldest_name : ℕ → Book → Name
oldest_name c k = new_name c (k.oldest c)

pub same_or_not : {A : Type 0} (u t : Name) → (u ≡ t → A) → (u ≢ t → A) → A
same_or_not u t f g =
    cases (same_name u t)
    (λ h. f (same_name_true u t h))
    (λ h. g (λ e. clash (rw e (same_name_refl t)) h))

pub same_name_false : (u t : Name) → u ≢ t → same_name u t ≡ false
same_name_false u t ne = cases (same_name u t) (λ h. absurd (ne (same_name_true u t h))) (λ h. h)

pub other_number : (c : ℕ) {i j : ℕ} → i ≢ j → new_name c i ≢ new_name c j
other_number c ne e = ne (ap (λ (n : Name). n.number) e)

pub other_core : {a c : ℕ} (i j : ℕ) → a ≢ c → new_name a i ≢ new_name c j
other_core i j ne e = ne (ap (λ (n : Name). n.core) e)

-- ---- stages
pub by_stage : (P : Stage → Type 0) → P absent → P running → ((n : ℕ) → P (closed n)) → ((n : ℕ) → P (committed n)) → P retired → (g : Stage) → P g
by_stage P a b c d e absent = a
by_stage P a b c d e running = b
by_stage P a b c d e (closed n) = c n
by_stage P a b c d e (committed n) = d n
by_stage P a b c d e retired = e

-- ---- one entry changed
module _ (t : Name) (g : Entry → Entry) (entry : Name → Entry) where
  pub change_at : change t g entry t ≡ g (entry t)
  unfolding change
  change_at = rw (same_name_refl t)

  pub change_other : (u : Name) → u ≢ t → change t g entry u ≡ entry u
  unfolding change
  change_other u ne = rw (same_name_false u t ne)

  pub change_by : {A : Type 0} (f : Entry → A) → f (g (entry t)) ≡ f (entry t) → (u : Name) → f (change t g entry u) ≡ f (entry u)
  change_by f h u = same_or_not u t (λ e. rw (e, change_at) h) (λ ne. ap f (change_other u ne))

-- what holds of t as it is changed, and of the others as they are, holds of each
pub change_each : (P : Name → Entry → Type 0) (t : Name) (f : Entry → Entry) (entry : Name → Entry) → P t (f (entry t))
    → ((u : Name) → u ≢ t → P u (entry u)) → (u : Name) → P u (change t f entry u)
change_each P t f entry a b u = same_or_not u t (λ e. rw (e, change_at t f entry) a) (λ ne. rw (change_other t f entry u ne) (b u ne))

-- ---- one number raised
pub raise_at : (c : ℕ) (n : ℕ → ℕ) → raise c n c ≡ suc (n c)
unfolding raise
raise_at c n = rw (eq-eqb c c refl)

pub raise_other : (c : ℕ) (n : ℕ → ℕ) (i : ℕ) → i ≢ c → raise c n i ≡ n i
unfolding raise
raise_other c n i ne = rw (ne_eqb i c ne)

-- ---- the four rules
-- another's name that the writer lists
abbrev pub met_holder : Meeting → Option Name
met_holder no_holder = none
met_holder own = none
met_holder (running_holder u) = some u
met_holder (closed_holder u) = some u

-- the writer takes the block
abbrev pub takes : Meeting → Bool
takes no_holder = true
takes own = false
takes (running_holder u) = false
takes (closed_holder u) = true

module _ (k : Book) (t : Name) where
  pub meets_met : (h : Option Name) (u : Name) → met_holder (meets k t h) ≡ some u → (h ≡ some u) × (u ≢ t)
  unfolding meets
  meets_met none u e = impossible cc
  meets_met (some x) u e =
      same_or_not x t
      (λ q. let p : met_holder (meets k t (some x)) ≡ none = rw (q, same_name_refl t) in impossible cc)
      (λ ne. let p : met_holder (meets k t (some x)) ≡ some x
      = rw (same_name_false x t ne) (cases (is_closed (k.entry x).stage) (λ c. rw c) (λ c. rw c)) in
      let q : x ≡ u = cc in (ap some q, λ r. ne (q ∙ r)))

  pub meets_running : (h : Option Name) (u : Name) → meets k t h ≡ running_holder u → is_closed (k.entry u).stage ≡ false
  unfolding meets
  meets_running none u e = impossible cc
  meets_running (some x) u e =
      cases (same_name x t)
      (λ s. let p : meets k t (some x) ≡ own = rw s in impossible cc)
      (λ s. cases (is_closed (k.entry x).stage)
      (λ c. let p : meets k t (some x) ≡ closed_holder x = rw (s, c) in impossible cc)
      (λ c. let p : meets k t (some x) ≡ running_holder x = rw (s, c) in let q : x ≡ u = cc in rw q at c))

  pub meets_own : meets k t (some t) ≡ own
  unfolding meets
  meets_own = rw (same_name_refl t)

  pub meets_same : (k' : Book) → ((u : Name) → is_closed (k'.entry u).stage ≡ is_closed (k.entry u).stage) → (h : Option Name) → meets k' t h ≡ meets k t h
  unfolding meets
  meets_same k' same none = refl
  meets_same k' same (some u) = rw (same u)

naming_mem : (n x : Name) (e : Entry) → Memᴰ x (naming n e).names → Memᴰ x e.names ⊎ (x ≡ n)
naming_mem n x e m =
    cases (any (same_name n) e.names)
    (λ h. inl (rw h at m))
    (λ h. elim (mathlib.Core.List.Memᴰ.append_cases e.names (rw h at m)) [ inl p ↦ inl p | inr p ↦ inr (mathlib.Core.List.Memᴰ.eq_of_singleton p) ])

module _ (m : Meeting) (t : Name) (b : ℕ) (entry : Name → Entry) where
  pub ruled_other : (u : Name) → u ≢ t → m ≢ running_holder u → ruled m t b entry u ≡ entry u
  unfolding ruled
  ruled_other u ne nr = go m refl
    where
      go : (r : Meeting) → m ≡ r → ruled r t b entry u ≡ entry u
      go no_holder e = change_other t (taking b) entry u ne
      go own e = refl
      go (running_holder x) e =
          change_other x (naming t) (change t (naming x) entry) u (λ q. nr (e ∙ ap running_holder (sym q))) ∙ change_other t (naming x) entry u ne
      go (closed_holder x) e = change_other t (λ (e : Entry). taking b (naming x e)) entry u ne

pub ruled_stage : (m : Meeting) (t : Name) (b : ℕ) (entry : Name → Entry) (u : Name) → (ruled m t b entry u).stage ≡ (entry u).stage
unfolding ruled
ruled_stage no_holder t b entry u = change_by t (taking b) entry (λ e. e.stage) refl u
ruled_stage own t b entry u = refl
ruled_stage (running_holder x) t b entry u =
    change_by x (naming t) (change t (naming x) entry) (λ e. e.stage) refl u ∙ change_by t (naming x) entry (λ e. e.stage) refl u
ruled_stage (closed_holder x) t b entry u = change_by t (λ (e : Entry). taking b (naming x e)) entry (λ e. e.stage) refl u

pub ruled_blocks_other : (m : Meeting) (t : Name) (b : ℕ) (entry : Name → Entry) (u : Name) → u ≢ t → (ruled m t b entry u).blocks ≡ (entry u).blocks
unfolding ruled
ruled_blocks_other no_holder t b entry u ne = ap (λ e. e.blocks) (change_other t (taking b) entry u ne)
ruled_blocks_other own t b entry u ne = refl
ruled_blocks_other (running_holder x) t b entry u ne =
    change_by x (naming t) (change t (naming x) entry) (λ e. e.blocks) refl u ∙ change_by t (naming x) entry (λ e. e.blocks) refl u
ruled_blocks_other (closed_holder x) t b entry u ne = ap (λ e. e.blocks) (change_other t (λ (e : Entry). taking b (naming x e)) entry u ne)

pub ruled_blocks : (m : Meeting) (t : Name) (b : ℕ) (entry : Name → Entry)
    → (ruled m t b entry t).blocks ≡ cond (takes m) ((entry t).blocks ++ (b ∷ [])) (entry t).blocks
unfolding ruled
ruled_blocks no_holder t b entry = ap (λ e. e.blocks) (change_at t (taking b) entry)
ruled_blocks own t b entry = refl
ruled_blocks (running_holder x) t b entry =
    change_by x (naming t) (change t (naming x) entry) (λ e. e.blocks) refl t ∙ change_by t (naming x) entry (λ e. e.blocks) refl t
ruled_blocks (closed_holder x) t b entry = ap (λ e. e.blocks) (change_at t (λ (e : Entry). taking b (naming x e)) entry)

changed_mem : (t n : Name) (f : Entry → Entry) (entry : Name → Entry) → ((e : Entry) → (f e).names ≡ (naming n e).names) → (u x : Name)
    → Memᴰ x (change t f entry u).names → Memᴰ x (entry u).names ⊎ (x ≡ n)
changed_mem t n f entry same u x p =
    same_or_not u t
    (λ e. naming_mem n x (entry u) (let q : Memᴰ x (f (entry t)).names = rw (e, change_at t f entry) at p in rw (same (entry t), ← e) at q))
    (λ ne. inl (rw (change_other t f entry u ne) at p))

-- whom a list names after the rules: those of before, the writer, the one met
pub ruled_names : (m : Meeting) (t : Name) (b : ℕ) (entry : Name → Entry) (u x : Name) → Memᴰ x (ruled m t b entry u).names
    → Memᴰ x (entry u).names ⊎ ((x ≡ t) ⊎ (met_holder m ≡ some x))
unfolding ruled
ruled_names no_holder t b entry u x p = inl (subst (λ l. Memᴰ x l) (change_by t (taking b) entry (λ e. e.names) refl u) p)
ruled_names own t b entry u x p = inl p
ruled_names (running_holder y) t b entry u x p =
    elim (changed_mem y t (naming t) (change t (naming y) entry) (λ e. refl) u x p) [
      | inl q ↦ elim (changed_mem t y (naming y) entry (λ e. refl) u x q) [ inl r ↦ inl r | inr e ↦ inr (inr (ap some (sym e))) ]
      | inr e ↦ inr (inl e)
    ]
ruled_names (closed_holder y) t b entry u x p =
    elim (changed_mem t y (λ (e : Entry). taking b (naming y e)) entry (λ e. refl) u x p) [ inl r ↦ inl r | inr e ↦ inr (inr (ap some (sym e))) ]

-- ---- the holder of a block
pub holder_same : (k k' : Book) → ((u : Name) → is_retired (k'.entry u).stage ≡ is_retired (k.entry u).stage) → (b : ℕ) (ws : List Write)
    → book_holder k' b ws ≡ book_holder k b ws
unfolding book_holder
holder_same k k' same b [] = refl
holder_same k k' same b (w ∷ ws) = rw (same w.holder, holder_same k k' same b ws)

pub holder_live : (k : Book) (b : ℕ) (ws : List Write) (u : Name) → book_holder k b ws ≡ some u → is_retired (k.entry u).stage ≡ false
unfolding book_holder
holder_live k b [] u e = impossible cc
holder_live k b (w ∷ ws) u e =
    cases (eqb b w.block)
    (λ h. cases (is_retired (k.entry w.holder).stage)
    (λ r. let p : book_holder k b (w ∷ ws) ≡ none = rw (h, r) in impossible cc)
    (λ r. let p : book_holder k b (w ∷ ws) ≡ some w.holder = rw (h, r) in let q : w.holder ≡ u = cc in rw q at r))
    (λ h. holder_live k b ws u (rw h at e))

-- ---- the blocks of the records
pub records_same : (k k' : Book) (c i n : ℕ)
    → ((j : ℕ) → i ≤ j → j < i + n → length (k'.entry (new_name c j)).blocks ≡ length (k.entry (new_name c j)).blocks)
    → record_blocks k' c i n ≡ record_blocks k c i n
unfolding record_blocks
records_same k k' c i zero same = refl
records_same k k' c i (suc n) same = rw (same i (omega arith) (omega arith), records_same k k' c (suc i) n (λ j a b. same j (omega arith) (omega arith)))

pub records_cons : (k : Book) (c i n : ℕ) → record_blocks k c i (suc n) ≡ length (k.entry (new_name c i)).blocks + 2 + record_blocks k c (suc i) n
unfolding record_blocks
records_cons k c i n = refl

pub records_snoc : (k : Book) (c i n : ℕ) → record_blocks k c i (suc n) ≡ record_blocks k c i n + (length (k.entry (new_name c (i + n))).blocks + 2)
unfolding record_blocks
records_snoc k c i zero = let e : i + 0 ≡ i = omega arith in rw e (omega arith)
records_snoc k c i (suc n) =
    let e : suc i + n ≡ i + suc n = omega arith in
    let h : record_blocks k c (suc i) (suc n) ≡ record_blocks k c (suc i) n + (length (k.entry (new_name c (i + suc n))).blocks + 2) = rw e at (records_snoc k c (suc i) n) in
    omega arith
