-- One home block since the card came up: its writes, the newest first, each with its writer and the block's holder after it.
-- The kept writes are the oldest of them, up to the last that a kept transaction held; the image of the highest-stamped
-- valid holder has exactly these, and where no holder is valid, home has them already. Nothing is said of bytes.
use Rattle.model.proofs.Base.{ℕ, ◌≤◌, ◌<◌, arith, ◌≡◌, refl, ap, ◌∙◌, ◌⊎◌, inl, inr, ⊎_elim, Bool, true, false, cond, So, Option}
use Rattle.model.proofs.Base.{none, some, List, [], ◌∷◌}
use Rattle.model.proofs.Lists.{cases, bool_ext}
use Rattle.crash.proofs.Books.Tests.{clash, false_of, Equality, impossible}

-- ---- a history
-- a write of the block: its transaction, the one that holds the block after it, and what it makes of the image
pub record Event (Txn Image : Type 0) : Type 0 where
  pub writer : Txn
  pub holder : Txn
  pub change : Image → Image

module _ {Txn Image : Type 0} where
  -- the image after all writes
  abbrev pub value : Image → List (Event Txn Image) → Image
  value base [] = base
  value base (e ∷ es) = e.change (value base es)

  -- the writes whose writer is in a set
  abbrev pub keep : (Txn → Bool) → List (Event Txn Image) → List (Event Txn Image)
  keep p [] = []
  keep p (e ∷ es) = cond (p e.writer) (e ∷ keep p es) (keep p es)

  -- the history up to the last write whose holder is in a set
  abbrev pub upto : (Txn → Bool) → List (Event Txn Image) → List (Event Txn Image)
  upto p [] = []
  upto p (e ∷ es) = cond (p e.holder) (e ∷ es) (upto p es)

  -- the transaction took the block: it held it after some write
  abbrev pub Took : Txn → List (Event Txn Image) → Type 0
  Took t [] = ⊥
  Took t (e ∷ es) = (e.holder ≡ t) ⊎ Took t es

  -- the last holder of a set is the last of each smaller set that has it
  upto_sub : (p q : Txn → Bool) → ((t : Txn) → So (q t) → So (p t)) → (es : List (Event Txn Image)) {e : Event Txn Image} {r : List (Event Txn Image)}
      → upto p es ≡ e ∷ r → So (q e.holder) → upto q es ≡ e ∷ r
  upto_sub p q sub [] at h = at
  upto_sub p q sub (x ∷ es) {e} {r} at h =
      cases (p x.holder)
      (λ a. let same : x ∷ es ≡ e ∷ r = rw a at at in let b : q x.holder ≡ true = cc in rw b same)
      (λ a. let b : q x.holder ≡ false = false_of _ (λ b. clash (sub _ b) a) in rw b (upto_sub p q sub es (rw a at at) h))

  upto_none : (p q : Txn → Bool) → ((t : Txn) → So (q t) → So (p t)) → (es : List (Event Txn Image)) → upto p es ≡ [] → upto q es ≡ []
  upto_none p q sub [] at = refl
  upto_none p q sub (x ∷ es) at =
      cases (p x.holder)
      (λ a. let same : x ∷ es ≡ [] = rw a at at in cc)
      (λ a. let b : q x.holder ≡ false = false_of _ (λ b. clash (sub _ b) a) in rw b (upto_none p q sub es (rw a at at)))

  upto_holder : (p : Txn → Bool) (es : List (Event Txn Image)) {e : Event Txn Image} {r : List (Event Txn Image)} → upto p es ≡ e ∷ r → So (p e.holder)
  upto_holder p [] {e} {r} at = impossible cc
  upto_holder p (x ∷ es) {e} {r} at =
      cases (p x.holder)
      (λ a. let same : x ∷ es ≡ e ∷ r = rw a at at in cc)
      (λ a. upto_holder p es (rw a at at))

  took_upto : (p : Txn → Bool) (t : Txn) (es : List (Event Txn Image)) → Took t es → So (p t) → Took t (upto p es)
  took_upto p t [] k h = k
  took_upto p t (x ∷ es) (inl k) h = let a : p x.holder ≡ true = cc in rw a (inl k)
  took_upto p t (x ∷ es) (inr k) h = cases (p x.holder) (λ a. rw a (inr k)) (λ a. rw a (took_upto p t es k h))

  upto_took : (p : Txn → Bool) (t : Txn) (es : List (Event Txn Image)) → Took t (upto p es) → Took t es
  upto_took p t [] k = k
  upto_took p t (x ∷ es) k = cases (p x.holder) (λ a. rw a at k) (λ a. inr (upto_took p t es (rw a at k)))

-- ---- the four facts
-- how far each transaction has come, what a cut would keep, the stamps of the closed ones, and who names whom
pub record Status (Txn : Type 0) : Type 0 where
  pub closed : Txn → Bool
  pub retired : Txn → Bool
  pub kept : Txn → Bool
  pub stamp : Txn → ℕ
  pub names : Txn → Txn → Bool

module _ {Txn : Type 0} (s : Status Txn) where
  -- kept ones are closed and have what they name; retired ones are kept (fact 4)
  pub record StatusSound : Type 0 where
    pub kept_closed : (t : Txn) → So (s.kept t) → So (s.closed t)
    pub kept_names : (t u : Txn) → So (s.kept t) → So (s.names t u) → So (s.kept u)
    pub retired_kept : (t : Txn) → So (s.retired t) → So (s.kept t)

  -- `homed`: those that have stored their image of the block home
  module _ (homed : Txn → Bool) where
    -- u held the block before t did: it is closed, its stamp is lower, and it retires before t stores home
    pub record Older (t u : Txn) : Type 0 where
      pub is_closed_lem : So (s.closed u)
      pub lower : So (s.closed t) → s.stamp u < s.stamp t
      pub retires_first : So (homed t) → So (s.retired u)

    -- the holder t after a write and the holder u before it are one, or u is older, and t names it or it is retired (fact 2)
    abbrev pub Link : Txn → Txn → Type 0
    Link t u = (t ≡ u) ⊎ (Older t u × (So (s.names t u) ⊎ So (s.retired u)))

    -- the writer is the holder, or each names the other (fact 1); a holder retires after it has stored home
    pub record WriterHolds {Image : Type 0} (e : Event Txn Image) : Type 0 where
      pub writer_holder : (e.writer ≡ e.holder) ⊎ (So (s.names e.writer e.holder) × So (s.names e.holder e.writer))
      pub stored : So (s.retired e.holder) → So (homed e.holder)

    abbrev pub LinkNext : {Image : Type 0} → Txn → List (Event Txn Image) → Type 0
    LinkNext t [] = Unit {0}
    LinkNext t (e ∷ es) = Link t e.holder

    abbrev pub Chain : {Image : Type 0} → List (Event Txn Image) → Type 0
    Chain [] = Unit {0}
    Chain (e ∷ es) = WriterHolds e × LinkNext e.holder es × Chain es

    older_link : {t u v : Txn} → (So (s.retired u) → So (homed u)) → Link t u → (u ≡ v) ⊎ Older u v → (t ≡ v) ⊎ Older t v
    older_link st (inl p) r = rw p r
    older_link st (inr l) (inl q) = inr (rw q at l.0)
    older_link st (inr l) (inr o) =
        inr
        (record {
          is_closed_lem = o.is_closed_lem;
          lower = λ h. omega (arith, l.0.lower h, o.lower l.0.is_closed_lem);
          retires_first = λ h. o.retires_first (st (l.0.retires_first h));
        })

    -- whoever took the block is its holder or older than it
    pub older : {Image : Type 0} (e : Event Txn Image) (es : List (Event Txn Image)) → Chain (e ∷ es) → (t : Txn) → Took t (e ∷ es)
        → (e.holder ≡ t) ⊎ Older e.holder t
    older e [] c t k = ⊎_elim inl (λ m. absurd m) k
    older e (x ∷ es) c t k = ⊎_elim inl (λ m. older_link c.2.0.stored c.1 (older x es c.2 t m)) k

  -- the block's home image has the history up to the last holder that stored home, and only kept ones do (fact 3)
  pub record BlockInv (homed : Txn → Bool) {Image : Type 0} (base home : Image) (es : List (Event Txn Image)) : Type 0 where
    pub chain : Chain homed es
    pub at_home : home ≡ value base (upto homed es)
    pub homed_kept : (t : Txn) → So (homed t) → So (s.kept t)

  -- ---- the kept writes are the oldest ones
  module _ (sound : StatusSound) (homed : Txn → Bool) where
    pub kept_link : {t u : Txn} → Link homed t u → So (s.kept t) → So (s.kept u)
    kept_link (inl p) h = rw p at h
    kept_link (inr (l, inl d)) h = sound.kept_names _ _ h d
    kept_link (inr (l, inr r)) h = sound.retired_kept _ r

  module _ (sound : StatusSound) (homed : Txn → Bool) {Image : Type 0} where
    kept_writer : (e : Event Txn Image) → WriterHolds homed e → s.kept e.writer ≡ s.kept e.holder
    kept_writer e o =
        ⊎_elim (ap s.kept)
        (λ d. bool_ext (λ h. sound.kept_names _ _ h d.0) (λ h. sound.kept_names _ _ h d.1))
        o.writer_holder

    kept_next : (t : Txn) (es : List (Event Txn Image)) → LinkNext homed t es → So (s.kept t) → upto s.kept es ≡ es
    kept_next t [] n h = refl
    kept_next t (x ∷ es) n h = rw (kept_link sound homed n h) refl

    prefix : (es : List (Event Txn Image)) → Chain homed es → keep s.kept es ≡ upto s.kept es
    prefix [] c = refl
    prefix (e ∷ es) c =
        rw (kept_writer e c.0)
        (cases (s.kept e.holder)
        (λ h. rw (h, prefix es c.2) (ap (λ r. e ∷ r) (kept_next _ es c.1 h)))
        (λ h. rw h (prefix es c.2)))

    upto_chain : (p : Txn → Bool) (es : List (Event Txn Image)) → Chain homed es → Chain homed (upto p es)
    upto_chain p [] c = c
    upto_chain p (e ∷ es) c = cases (p e.holder) (λ h. rw h c) (λ h. rw h (upto_chain p es c.2))

  -- ---- recovery
  -- of those that took the block, are kept and not retired, one of highest stamp, if there is any
  abbrev pub NewestKept : {Image : Type 0} → List (Event Txn Image) → Option Txn → Type 0
  NewestKept es none = (t : Txn) → Took t es → So (s.kept t) → So (s.retired t)
  NewestKept es (some t) =
      Took t es × So (s.kept t) × (s.retired t ≡ false)
      × ((u : Txn) → Took u es → So (s.kept u) → s.retired u ≡ false → s.stamp u ≤ s.stamp t)

module _ {Txn Image : Type 0} (E : Equality Txn) where
  -- the block's home image after recovery: the picked one's image, or as it was
  abbrev pub recovered_image : Image → Image → List (Event Txn Image) → Option Txn → Image
  recovered_image base home es none = home
  recovered_image base home es (some t) = value base (upto (E.is t) es)

  module _ (s : Status Txn) (sound : StatusSound s) (homed : Txn → Bool) (base home : Image) (es : List (Event Txn Image)) (good : BlockInv s homed base home es) where
    recovers_none : (o : Option Txn) → NewestKept s es o → upto s.kept es ≡ [] → recovered_image base home es o ≡ base
    recovers_none none k at = good.at_home ∙ ap (value base) (upto_none _ homed good.homed_kept es at)
    recovers_none (some t) k at = absurd (rw at at (took_upto s.kept t es k.0 k.1))

    -- e: the last write that a kept transaction held
    module _ (e : Event Txn Image) (r : List (Event Txn Image)) (at : upto s.kept es ≡ e ∷ r) where
      last_kept : So (s.kept e.holder)
      last_kept = upto_holder s.kept es at

      last_chain : Chain s homed (e ∷ r)
      last_chain = rw at at (upto_chain s sound homed s.kept es good.chain)

      last_took : Took e.holder es
      last_took = upto_took s.kept e.holder es (rw at (inl refl))

      -- an older holder is retired, or its stamp is not the highest
      not_older : (t : Txn) → NewestKept s es (some t) → Older s homed e.holder t → ⊥
      not_older t k o =
          cases (s.retired e.holder)
          (λ h. clash (o.retires_first (last_chain.0.stored h)) k.2)
          (λ h. omega (arith, k.3 _ last_took last_kept h, o.lower (sound.kept_closed _ last_kept)))

      picks_last : (t : Txn) → NewestKept s es (some t) → e.holder ≡ t
      picks_last t k =
          ⊎_elim (λ p. p) (λ o. absurd (not_older t k o))
          (older s homed e r last_chain t (rw at at (took_upto s.kept t es k.0 k.1)))

      recovers_some : (o : Option Txn) → NewestKept s es o → recovered_image base home es o ≡ value base (e ∷ r)
      recovers_some none k =
          good.at_home ∙ ap (value base) (upto_sub _ homed good.homed_kept es at (last_chain.0.stored (k _ last_took last_kept)))
      recovers_some (some t) k =
          ap (value base) (upto_sub _ (E.is t) (λ u h. rw (E.is_true t u h) at k.1) es at (rw (picks_last t k) (E.is_refl t)))

    -- Recovery gives the base with the kept writes.
    pub recovers : (o : Option Txn) → NewestKept s es o → recovered_image base home es o ≡ value base (keep s.kept es)
    recovers o k = rw (prefix s sound homed es good.chain) (by_last (upto s.kept es) refl)
      where
        by_last : (r : List (Event Txn Image)) → upto s.kept es ≡ r → recovered_image base home es o ≡ value base (upto s.kept es)
        by_last [] at = rw at (recovers_none o k at)
        by_last (e ∷ r) at = rw at (recovers_some e r at o k)
