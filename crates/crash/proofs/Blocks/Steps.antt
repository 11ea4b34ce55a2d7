-- What each command does to a block's history: more is known of its transactions, one more write, one image stored home.
-- Each keeps the block's invariant. A write is held by one that has not closed, so no image that is fixed changes; a home
-- store is of a kept transaction, and every older holder is retired.
use Rattle.model.proofs.Base.{◌<◌, ◌≡◌, refl, ap, inl, inr, ⊎_elim, ⊎_map, Bool, false, ◌||◌, So, List, [], ◌∷◌}
use Rattle.model.proofs.Lists.{cases, or_cases, or_left, or_right}
use Rattle.crash.proofs.Books.Tests.{clash, Equality, false_of}
use Rattle.crash.proofs.Blocks.History.{Event, value, upto, Took, Status, StatusSound, Older, Link, WriterHolds, LinkNext, Chain, BlockInv, older}

-- ---- a command that leaves the block alone: marks are only added, and one that closes gets the highest stamp so far
pub record Extends {Txn : Type 0} (s s' : Status Txn) : Type 0 where
  pub closed : (t : Txn) → So (s.closed t) → So (s'.closed t)
  pub retired : (t : Txn) → So (s.retired t) → So (s'.retired t)
  pub kept : (t : Txn) → So (s.kept t) → So (s'.kept t)
  pub names : (t u : Txn) → So (s.names t u) → So (s'.names t u)
  pub lower : (t u : Txn) → So (s.closed u) → (So (s.closed t) → s.stamp u < s.stamp t) → So (s'.closed t) → s'.stamp u < s'.stamp t

module _ {Txn : Type 0} (s s' : Status Txn) (x : Extends s s') (homed : Txn → Bool) where
  older_extends : {t u : Txn} → Older s homed t u → Older s' homed t u
  older_extends {t} {u} o =
      record {
        is_closed_lem = x.closed u o.is_closed_lem;
        lower = x.lower t u o.is_closed_lem o.lower;
        retires_first = λ h. x.retired u (o.retires_first h);
      }

  link_extends : {t u : Txn} → Link s homed t u → Link s' homed t u
  link_extends (inl p) = inl p
  link_extends (inr (o, d)) = inr (older_extends o, ⊎_map (x.names _ _) (x.retired _) d)

module _ {Txn Image : Type 0} (s s' : Status Txn) (x : Extends s s') (homed : Txn → Bool) where
  -- only those that have stored the block home retire
  abbrev RetiredHomed : List (Event Txn Image) → Type 0
  RetiredHomed es = (t : Txn) → Took t es → So (s'.retired t) → So (homed t)

  next_extends : (t : Txn) (es : List (Event Txn Image)) → LinkNext s homed t es → LinkNext s' homed t es
  next_extends t [] n = n
  next_extends t (e ∷ es) n = link_extends s s' x homed n

  chain_extends : (es : List (Event Txn Image)) → RetiredHomed es → Chain s homed es → Chain s' homed es
  chain_extends [] st c = c
  chain_extends (e ∷ es) st c = (
    record {
      writer_holder = ⊎_map (λ p. p) (λ d. (x.names _ _ d.0, x.names _ _ d.1)) c.0.writer_holder;
      stored = st _ (inl refl);
    },
    next_extends _ es c.1,
    chain_extends es (λ t k. st t (inr k)) c.2,
  )

  pub block_inv_extends : (base home : Image) (es : List (Event Txn Image)) → RetiredHomed es → BlockInv s homed base home es → BlockInv s' homed base home es
  block_inv_extends base home es st g =
      record { chain = chain_extends es st g.chain; at_home = g.at_home; homed_kept = λ t h. x.kept t (g.homed_kept t h) }

-- ---- a write of the block: its holder has not closed
module _ {Txn Image : Type 0} (s : Status Txn) (sound : StatusSound s) (homed : Txn → Bool) (base home : Image) (e : Event Txn Image) (es : List (Event Txn Image)) where
  pub block_inv_write : s.closed e.holder ≡ false → WriterHolds s homed e → LinkNext s homed e.holder es → BlockInv s homed base home es → BlockInv s homed base home (e ∷ es)
  block_inv_write open_holder o n g =
      record {
        chain = (o, n, g.chain);
        at_home = rw (false_of (homed e.holder) (λ h. clash (sound.kept_closed _ (g.homed_kept _ h)) open_holder)) g.at_home;
        homed_kept = g.homed_kept;
      }

-- ---- a home store of t's image
-- a set with one element more
abbrev pub with_one : {Txn : Type 0} → Equality Txn → (Txn → Bool) → Txn → Txn → Bool
with_one E p t u = p u || E.is t u

module _ {Txn : Type 0} (E : Equality Txn) (s : Status Txn) (sound : StatusSound s) (homed : Txn → Bool) (t : Txn) (kept : So (s.kept t)) where
  link_home : {v u : Txn} → (So (s.closed u) → s.stamp u < s.stamp t → So (s.retired u)) → Link s homed v u → Link s (with_one E homed t) v u
  link_home first (inl p) = inl p
  link_home {v} {u} first (inr (o, d)) =
      inr (
        record {
          is_closed_lem = o.is_closed_lem;
          lower = o.lower;
          retires_first =
              λ h. ⊎_elim o.retires_first
              (λ q. first o.is_closed_lem (rw (E.is_true t v q) (o.lower (rw (E.is_true t v q) at (sound.kept_closed t kept)))))
              (or_cases (homed v) _ h);
        },
        d,
      )

  module _ {Image : Type 0} where
    -- each closed one of lower stamp that took the block is retired: 33 does not apply
    abbrev LowerRetired : List (Event Txn Image) → Type 0
    LowerRetired es = (u : Txn) → Took u es → So (s.closed u) → s.stamp u < s.stamp t → So (s.retired u)

    next_home : (v : Txn) (es : List (Event Txn Image)) → LowerRetired es → LinkNext s homed v es → LinkNext s (with_one E homed t) v es
    next_home v [] first n = n
    next_home v (e ∷ es) first n = link_home (first _ (inl refl)) n

    chain_home : (es : List (Event Txn Image)) → LowerRetired es → Chain s homed es → Chain s (with_one E homed t) es
    chain_home [] first c = c
    chain_home (e ∷ es) first c =
        let first' : LowerRetired es = λ u k. first u (inr k) in
        (record { writer_holder = c.0.writer_holder; stored = λ r. or_left _ (c.0.stored r) }, next_home _ es first' c.1, chain_home es first' c.2)

    -- no later holder has stored home
    upto_home : (es : List (Event Txn Image)) → s.retired t ≡ false → Took t es → Chain s homed es → upto (E.is t) es ≡ upto (with_one E homed t) es
    upto_home [] live k c = refl
    upto_home (e ∷ es) live k c =
        cases (E.is t e.holder)
        (λ h. rw (or_right (homed e.holder) h, h) refl)
        (λ h.
        let other : e.holder ≡ t → ⊥ = λ p. clash (rw p (E.is_refl t)) h in
        let fresh : homed e.holder ≡ false = false_of _ (λ d. ⊎_elim other (λ o. clash (o.retires_first d) live) (older s homed e es c t k)) in
        rw (fresh, h) (upto_home es live (⊎_elim (λ p. absurd (other p)) (λ m. m) k) c.2))

    pub block_inv_home : (base home : Image) (es : List (Event Txn Image)) → s.retired t ≡ false → Took t es → LowerRetired es
        → BlockInv s homed base home es → BlockInv s (with_one E homed t) base (value base (upto (E.is t) es)) es
    block_inv_home base home es live took first g =
        record {
          chain = chain_home es first g.chain;
          at_home = ap (value base) (upto_home es live took g.chain);
          homed_kept = λ u h. ⊎_elim (g.homed_kept u) (λ q. rw (E.is_true t u q) at kept) (or_cases (homed u) _ h);
        }
