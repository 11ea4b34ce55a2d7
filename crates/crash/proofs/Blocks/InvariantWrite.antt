-- WRITE keeps the invariant, by each of the four rules.
-- The block's holder after the write has not closed. It is the holder before it, and it and the writer name each other;
-- or it is the writer, and the holder before it is retired, or closed and then named by the writer.
use Rattle.model.proofs.Base.{ℕ, ◌≡◌, refl, sym, ap, ◌∙◌, subst, ◌≢◌, ◌⊎◌, inl, inr, ⊎_elim, ⊎_map, Bool, false, cond, ◌||◌, So, Option}
use Rattle.model.proofs.Base.{none, some, List, [], ◌∷◌, ◌++◌, eqb, eqb-true, any, Bytes}
use mathlib.Core.Bool.{or-false}
use Rattle.model.specs.Card.{same_name}
use Rattle.model.specs.declared.Name.{Name}
use Rattle.model.proofs.Lists.{cases, or_cases, or_left, or_right, any_append}
use Rattle.model.proofs.Valid.{same_name_refl}
use Rattle.crash.specs.Book.{absent, running, is_closed, is_retired, Entry, Write, Book, change, taking, naming, book_holder, Meeting, no_holder, own, running_holder, closed_holder, meets, ruled, holder_after, note, write_book, kept}
use Rattle.crash.specs.Ledger.{Ledger, with_book, image_now}
use Rattle.crash.proofs.Books.Tests.{clash, false_of, block_equality, impossible}
use Rattle.crash.proofs.Books.BookEntries.{change_at, change_other, change_each, next_name, same_or_not, same_name_false}
use Rattle.crash.proofs.Books.BookSteps.{begun_by, begun_running}
use Rattle.crash.proofs.Blocks.History.{Event, value, Took, Status, Link, LinkNext, Chain, BlockInv, older}
use Rattle.crash.proofs.Blocks.Steps.{block_inv_write}
use Rattle.crash.proofs.Books.Required.{required_same}
use Rattle.crash.proofs.Books.Largest.{member_of, stage_of}
use Rattle.crash.proofs.Blocks.Invariant.{event_of, history, image_history, area_before, history_of, took_in, homed_by, homed, status, retired_closed, open_not_homed, AllOpened, Inv, sound_of, retired_homed, Grows, extends, block_inv_grown}
use Rattle.crash.proofs.Blocks.InvariantSteps.{inv_begin}

-- ---- what a write may do to a transaction: add to its names and, before it closes, to its blocks
pub record WriteEdits (x y : Entry) : Type 0 where
  pub stage : y.stage ≡ x.stage
  pub names : (u : Name) → So (member_of x.names u) → So (member_of y.names u)
  pub fixed : So (is_closed x.stage) → (y.names ≡ x.names) × (y.blocks ≡ x.blocks)

edits_none : (x : Entry) → WriteEdits x x
edits_none x = record { stage = refl; names = λ u h. h; fixed = λ h. (refl, refl) }

edits_both : {x y z : Entry} → WriteEdits x y → WriteEdits y z → WriteEdits x z
edits_both p q =
    record {
      stage = q.stage ∙ p.stage;
      names = λ u h. q.names u (p.names u h);
      fixed = λ h. let k = q.fixed (rw p.stage h) in (k.0 ∙ (p.fixed h).0, k.1 ∙ (p.fixed h).1);
    }

edits_taking : (b : ℕ) (x : Entry) → is_closed x.stage ≡ false → WriteEdits x (taking b x)
edits_taking b x o = record { stage = refl; names = λ u h. h; fixed = λ h. clash h o }

edits_naming : (n : Name) (x : Entry) → is_closed x.stage ≡ false → WriteEdits x (naming n x)
edits_naming n x o =
    record {
      stage = refl;
      names =
          λ u h. cases (member_of x.names n) (λ k. rw k h) (λ k. rw (k, any_append (same_name u) x.names (n ∷ [])) (or_left _ h));
      fixed = λ h. clash h o;
    }

naming_lists : (n : Name) (x : Entry) → So (member_of (naming n x).names n)
unfolding any
naming_lists n x =
    cases (member_of x.names n)
    (λ k. rw k k)
    (λ k. rw (k, any_append (same_name n) x.names (n ∷ [])) (or_right (member_of x.names n) (or_left _ (same_name_refl n))))

edits_change : (t : Name) (f : Entry → Entry) (entry : Name → Entry) → WriteEdits (entry t) (f (entry t)) → (u : Name) → WriteEdits (entry u) (change t f entry u)
edits_change t f entry d = change_each (λ u e. WriteEdits (entry u) e) t f entry d (λ u h. edits_none (entry u))

edits_homed : (b : ℕ) (x y : Entry) → WriteEdits x y → homed_by b x.blocks x.stage ≡ homed_by b y.blocks y.stage
edits_homed b x y d =
    cases (is_closed x.stage)
    (λ h. rw (d.stage, (d.fixed h).1) refl)
    (λ h. open_not_homed b x.blocks x.stage h ∙ sym (open_not_homed b y.blocks y.stage (rw d.stage h)))

-- ---- a write noted, with transactions edited
abbrev pub with_write : Ledger → Write → (Name → Entry) → Ledger
with_write l w entry =
    with_book l
    (record {
      begun = l.book.begun;
      opened = l.book.opened;
      entry = entry;
      writes = w ∷ l.book.writes;
      oldest = l.book.oldest;
      uncommitted = l.book.uncommitted;
      next = l.book.next;
    })

module _ {home : ℕ → Bytes} {l : Ledger} (v : Inv home l) (w : Write) (entry : Name → Entry)
    (edits : (u : Name) → WriteEdits (l.book.entry u) (entry u)) where
  abbrev noted : Ledger
  noted = with_write l w entry

  noted_known : AllOpened noted.book
  noted_known u h = v.known u (rw (edits u).stage at h)

  noted_grows : (u : Name) → Grows l noted u
  noted_grows u =
      record {
        closed = λ h. rw (edits u).stage h;
        committed = λ h. rw (edits u).stage h;
        retired = λ h. rw (edits u).stage h;
        names = (edits u).names;
        required_fixed = λ h. required_same l.book noted.book u refl ((edits u).fixed h).0;
        stamp_fixed = λ h. refl;
        stamp_new = λ p q. clash (rw (edits u).stage at q) p;
      }

  noted_block_inv : (b : ℕ) → BlockInv (status noted) (homed noted b) (area_before l b) (home b) (history_of l b)
  noted_block_inv b =
      block_inv_grown v noted noted_known noted_grows b (home b) (homed l b) (v.block_inv b)
      (λ u k r. retired_homed v b u k (rw (edits u).stage at r))
      (λ u. edits_homed b (l.book.entry u) (entry u) (edits u))

  noted_retired : (u : Name) → So (is_retired (entry u).stage) → So (member_of (kept noted.book) u)
  noted_retired u r = (extends v noted noted_known noted_grows).kept u (v.retired_kept u (rw (edits u).stage at r))

  module _ (open_holder : is_closed (stage_of l.book w.holder) ≡ false)
      (more : (b : ℕ) (u : Name) → So (any (eqb b) (entry u).blocks) → So (took_in l.book b u) ⊎ ((b ≡ w.block) × (w.holder ≡ u)))
      (same_blocks : (b : ℕ) (u : Name) → So (took_in l.book b u) → So (any (eqb b) (entry u).blocks))
      (here : So (any (eqb w.block) (entry w.holder).blocks)) where
    open_after : is_closed (entry w.holder).stage ≡ false
    open_after = rw (edits w.holder).stage open_holder

    noted_took : (b : ℕ) (u : Name) → So (took_in l.book b u) ⊎ ((b ≡ w.block) × (w.holder ≡ u)) → Took u (history_of noted b)
    noted_took b u (inl m) = cases (eqb b w.block) (λ h. rw h (inr (v.took b u m))) (λ h. rw h (v.took b u m))
    noted_took b u (inr (h, p)) = rw (h, block_equality.is_refl w.block) (inl p)

    noted_taken : (b : ℕ) (u : Name) → b ≡ w.block → (w.holder ≡ u) ⊎ Took u (history_of l b) → So (any (eqb b) (entry u).blocks)
    noted_taken b u h (inl p) = rw (h, ← p) here
    noted_taken b u h (inr k) = same_blocks b u (v.taken b u k)

    inv_noted : (w.writer ≡ w.holder) ⊎ (So (member_of (entry w.writer).names w.holder) × So (member_of (entry w.holder).names w.writer))
        → LinkNext (status noted) (homed noted w.block) w.holder (history_of l w.block) → Inv home noted
    inv_noted writer_holder next =
        record {
          block_inv =
              λ b. cases (eqb b w.block)
              (λ h. subst (λ (x : ℕ). BlockInv (status noted) (homed noted x) (area_before l x) (home x) (history_of noted x)) (sym (eqb-true b w.block h))
              (rw (block_equality.is_refl w.block)
              (block_inv_write (status noted) (sound_of noted noted_known noted_retired) (homed noted w.block) (area_before l w.block) (home w.block)
              (event_of w) (history_of l w.block) open_after
              (record { writer_holder = writer_holder; stored = λ r. clash (retired_closed (entry w.holder).stage r) open_after })
              next (noted_block_inv w.block))))
              (λ h. rw h (noted_block_inv b));
          took = λ b u m. noted_took b u (more b u m);
          taken =
              λ b u k. cases (eqb b w.block)
              (λ h. noted_taken b u (eqb-true b w.block h) (rw h at k))
              (λ h. same_blocks b u (v.taken b u (rw h at k)));
          stamps = λ u h. v.stamps u (rw (edits u).stage at h);
          known = noted_known;
          retired_kept = noted_retired;
        }

-- ---- the holder before the write
abbrev pub last_holder : List (Event Name Bytes) → Option Name
last_holder [] = none
last_holder (e ∷ es) = some e.holder

next_by : (s : Status Name) (h : Name → Bool) (t : Name) (es : List (Event Name Bytes)) → ((u : Name) → last_holder es ≡ some u → Link s h t u) → LinkNext s h t es
next_by s h t [] f = tt
next_by s h t (e ∷ es) f = f e.holder refl

took_last : (es : List (Event Name Bytes)) (u : Name) → last_holder es ≡ some u → Took u es
took_last [] u q = impossible cc
took_last (e ∷ es) u q = let p : e.holder ≡ u = cc in inl p

abbrev unless_retired : Book → Option Name → Option Name
unless_retired k none = none
unless_retired k (some u) = cond (is_retired (stage_of k u)) none (some u)

holder_last : (k : Book) (b : ℕ) (ws : List Write) → book_holder k b ws ≡ unless_retired k (last_holder (history b ws))
unfolding book_holder
holder_last k b [] = refl
holder_last k b (w ∷ ws) = cases (eqb b w.block) (λ h. rw h refl) (λ h. rw h (holder_last k b ws))

-- what each rule goes by
abbrev Ruled : Ledger → Name → ℕ → Meeting → Type 0
Ruled l t b no_holder = (u : Name) → last_holder (history_of l b) ≡ some u → So (is_retired (stage_of l.book u))
Ruled l t b own = last_holder (history_of l b) ≡ some t
Ruled l t b (running_holder u) = (last_holder (history_of l b) ≡ some u) × (is_closed (stage_of l.book u) ≡ false) × (u ≢ t)
Ruled l t b (closed_holder u) = (last_holder (history_of l b) ≡ some u) × So (is_closed (stage_of l.book u))

pub meets_ruled : (l : Ledger) (t : Name) (b : ℕ) → Ruled l t b (meets l.book t (book_holder l.book b l.book.writes))
unfolding meets
meets_ruled l t b = rw (holder_last l.book b l.book.writes) (by_last (last_holder (history_of l b)) refl)
  where
    by_last : (o : Option Name) → last_holder (history_of l b) ≡ o → Ruled l t b (meets l.book t (unless_retired l.book o))
    by_last none q = λ u p. impossible cc
    by_last (some u) q =
        cases (is_retired (stage_of l.book u))
        (λ h. rw h (λ w p. let same : u ≡ w = cc in rw same at h))
        (λ h. rw h
        (same_or_not u t
        (λ e. rw (e, same_name_refl t) (q ∙ ap some e))
        (λ ne. rw (same_name_false u t ne) (cases (is_closed (stage_of l.book u)) (λ c. rw c (q, c)) (λ c. rw c (q, c, ne))))))

-- ---- what the rules do to transactions
module _ (l : Ledger) (t : Name) (runs : is_closed (stage_of l.book t) ≡ false) where
  -- the writer takes the block from a closed holder u
  edits_closed : (b : ℕ) (u : Name) → WriteEdits (l.book.entry t) (taking b (naming u (l.book.entry t)))
  edits_closed b u = edits_both (edits_naming u (l.book.entry t) runs) (edits_taking b (naming u (l.book.entry t)) runs)

  -- writer and running holder u name each other
  module _ (u : Name) (open_holder : is_closed (stage_of l.book u) ≡ false) (other : u ≢ t) where
    abbrev writer_names : Name → Entry
    writer_names = change t (naming u) l.book.entry

    abbrev both_name : Name → Entry
    both_name = change u (naming t) writer_names

    both_edits : (x : Name) → WriteEdits (l.book.entry x) (both_name x)
    both_edits x =
        edits_both (edits_change t (naming u) l.book.entry (edits_naming u (l.book.entry t) runs) x)
        (edits_change u (naming t) writer_names (edits_naming t (writer_names u) (rw (change_other t (naming u) l.book.entry u other) open_holder)) x)

    both_blocks : (x : Name) → (both_name x).blocks ≡ (l.book.entry x).blocks
    both_blocks x =
        change_each (λ x e. e.blocks ≡ (writer_names x).blocks) u (naming t) writer_names refl (λ x h. refl) x
        ∙ change_each (λ x e. e.blocks ≡ (l.book.entry x).blocks) t (naming u) l.book.entry refl (λ x h. refl) x

    both_names : So (member_of (both_name t).names u) × So (member_of (both_name u).names t)
    both_names = (
      rw (change_other u (naming t) writer_names t (λ e. other (sym e)), change_at t (naming u) l.book.entry) (naming_lists u (l.book.entry t)),
      rw (change_at u (naming t) writer_names) (naming_lists t (writer_names u)),
    )

  module _ (b : ℕ) where
    pub rule_edits : (r : Meeting) → Ruled l t b r → (u : Name) → WriteEdits (l.book.entry u) (ruled r t b l.book.entry u)
    unfolding ruled
    rule_edits no_holder p = edits_change t (taking b) l.book.entry (edits_taking b (l.book.entry t) runs)
    rule_edits own p = λ u. edits_none (l.book.entry u)
    rule_edits (running_holder u) p = both_edits u p.1 p.2
    rule_edits (closed_holder u) p = edits_change t (λ e. taking b (naming u e)) l.book.entry (edits_closed b u)

    pub rule_open : (r : Meeting) → Ruled l t b r → is_closed (stage_of l.book (holder_after r t)) ≡ false
    unfolding holder_after
    rule_open no_holder p = runs
    rule_open own p = runs
    rule_open (running_holder u) p = p.1
    rule_open (closed_holder u) p = runs

-- ---- the rules keep the invariant
module _ {home : ℕ → Bytes} {l : Ledger} (v : Inv home l) (t : Name) (runs : is_closed (stage_of l.book t) ≡ false) (b o : ℕ) (bytes : Bytes) where
  abbrev write_by : Name → Write
  write_by h = record { writer = t; holder = h; block = b; offset = o; bytes = bytes }

  -- the writer takes the block
  module _ (f : Entry → Entry) (edits_t : WriteEdits (l.book.entry t) (f (l.book.entry t)))
      (blocks : (f (l.book.entry t)).blocks ≡ (l.book.entry t).blocks ++ (b ∷ [])) where
    abbrev entry_taken : Name → Entry
    entry_taken = change t f l.book.entry

    taken_edits : (u : Name) → WriteEdits (l.book.entry u) (entry_taken u)
    taken_edits = edits_change t f l.book.entry edits_t

    taken_t : (c : ℕ) → any (eqb c) (f (l.book.entry t)).blocks ≡ (took_in l.book c t || eqb c b)
    unfolding any
    taken_t c = rw (blocks, any_append (eqb c) (l.book.entry t).blocks (b ∷ []), or-false (eqb c b)) refl

    taken_more : (c : ℕ) (u : Name) → So (any (eqb c) (entry_taken u).blocks) → So (took_in l.book c u) ⊎ ((c ≡ b) × (t ≡ u))
    taken_more c =
        change_each (λ u e. So (any (eqb c) e.blocks) → So (took_in l.book c u) ⊎ ((c ≡ b) × (t ≡ u))) t f l.book.entry
        (λ m. ⊎_map (λ q. q) (λ q. (eqb-true c b q, refl)) (or_cases (took_in l.book c t) (eqb c b) (rw (taken_t c) at m)))
        (λ u h m. inl m)

    taken_same : (c : ℕ) (u : Name) → So (took_in l.book c u) → So (any (eqb c) (entry_taken u).blocks)
    taken_same c =
        change_each (λ u e. So (took_in l.book c u) → So (any (eqb c) e.blocks)) t f l.book.entry
        (λ m. rw (taken_t c) (or_left _ m)) (λ u h m. m)

    inv_taken : ((u : Name) → last_holder (history_of l b) ≡ some u
        → So (is_closed (stage_of l.book u)) × (So (member_of (f (l.book.entry t)).names u) ⊎ So (is_retired (stage_of l.book u))))
        → Inv home (with_write l (write_by t) entry_taken)
    inv_taken prior =
        let after : Ledger = with_write l (write_by t) entry_taken in
        let open_after : is_closed (stage_of after.book t) ≡ false = rw (taken_edits t).stage runs in
        inv_noted v (write_by t) entry_taken taken_edits runs taken_more taken_same
        (rw (change_at t f l.book.entry, taken_t b) (or_right (took_in l.book b t) (block_equality.is_refl b))) (inl refl)
        (next_by (status after) (homed after b) t (history_of l b) (λ u q. inr (
          record {
            is_closed_lem = rw (taken_edits u).stage (prior u q).0;
            lower = λ h. clash h open_after;
            retires_first = λ h. clash h (open_not_homed b (after.book.entry t).blocks (stage_of after.book t) open_after);
          },
          ⊎_map (λ h. rw (change_at t f l.book.entry) h) (λ h. rw (taken_edits u).stage h) (prior u q).1,
        )))

  -- the holder stays
  inv_stays : (entry : Name → Entry) (edits : (u : Name) → WriteEdits (l.book.entry u) (entry u)) → ((u : Name) → (entry u).blocks ≡ (l.book.entry u).blocks)
      → (h : Name) → is_closed (stage_of l.book h) ≡ false → last_holder (history_of l b) ≡ some h
      → (t ≡ h) ⊎ (So (member_of (entry t).names h) × So (member_of (entry h).names t)) → Inv home (with_write l (write_by h) entry)
  inv_stays entry edits blocks h open_holder last writer_holder =
      inv_noted v (write_by h) entry edits open_holder
      (λ c u m. inl (rw (blocks u) at m)) (λ c u m. rw (blocks u) m) (rw (blocks h) (v.taken b h (took_last (history_of l b) h last))) writer_holder
      (next_by (status (with_write l (write_by h) entry)) (homed (with_write l (write_by h) entry) b) h (history_of l b) (λ u q. let same : h ≡ u = cc in inl same))

  inv_rule : (r : Meeting) → Ruled l t b r → Inv home (with_write l (write_by (holder_after r t)) (ruled r t b l.book.entry))
  unfolding ruled holder_after
  inv_rule no_holder p =
      inv_taken (taking b) (edits_taking b (l.book.entry t) runs) refl (λ u q. (retired_closed (stage_of l.book u) (p u q), inr (p u q)))
  inv_rule own p = inv_stays l.book.entry (λ u. edits_none (l.book.entry u)) (λ u. refl) t runs p (inl refl)
  inv_rule (running_holder u) p =
      inv_stays (both_name l t runs u p.1 p.2) (both_edits l t runs u p.1 p.2) (both_blocks l t runs u p.1 p.2) u p.1 p.0
      (inr (both_names l t runs u p.1 p.2))
  inv_rule (closed_holder u) p =
      inv_taken (λ e. taking b (naming u e)) (edits_closed l t runs b u) refl
      (λ x q. let same : u ≡ x = cc in rw (← same) (p.1, inl (naming_lists u (l.book.entry t))))

  inv_note : Inv home (with_book l (note t b o bytes l.book))
  unfolding note
  inv_note = inv_rule (meets l.book t (book_holder l.book b l.book.writes)) (meets_ruled l t b)

-- WRITE by core c, whose transaction is running or opened by it
pub inv_write : {home : ℕ → Bytes} {l : Ledger} → Inv home l → (c b o : ℕ) (bytes : Bytes)
    → (stage_of l.book (next_name c l.book) ≡ absent) ⊎ (stage_of l.book (next_name c l.book) ≡ running)
    → Inv home (with_book l (write_book c b o bytes l.book))
unfolding write_book
inv_write {home} {l} v c b o bytes current =
    let t : Name = next_name c l.book in
    inv_note (begun_by l.book c current (λ (k : Book). Inv home (with_book l k)) (λ e. v) (λ e. inv_begin v t e)) t
    (ap is_closed (begun_running l.book c current)) b o bytes

-- ---- a block and its holder
module _ {home : ℕ → Bytes} {l : Ledger} (v : Inv home l) (b : ℕ) where
  -- a holder took the block
  pub holder_took : (u : Name) → book_holder l.book b l.book.writes ≡ some u → So (took_in l.book b u)
  holder_took u h = v.taken b u (by_last (last_holder (history_of l b)) refl (rw (holder_last l.book b l.book.writes) at h))
    where
      by_last : (o : Option Name) → last_holder (history_of l b) ≡ o → unless_retired l.book o ≡ some u → Took u (history_of l b)
      by_last none q h = impossible cc
      by_last (some w) q h =
          cases (is_retired (stage_of l.book w))
          (λ r. let e : none ≡ some u = rw r at h in impossible cc)
          (λ r. let e : some w ≡ some u = rw r at h in took_last (history_of l b) u (q ∙ e))

  -- whoever took the block and has not closed is the last holder
  pub open_last : (t : Name) → is_closed (stage_of l.book t) ≡ false → So (took_in l.book b t) → last_holder (history_of l b) ≡ some t
  open_last t runs k = last_of (history_of l b) (v.block_inv b).chain (v.took b t k)
    where
      last_of : (es : List (Event Name Bytes)) → Chain (status l) (homed l b) es → Took t es → last_holder es ≡ some t
      last_of [] c m = absurd m
      last_of (e ∷ es) c m = ap some (⊎_elim (λ p. p) (λ o. clash o.is_closed_lem runs) (older (status l) (homed l b) e es c t m))

  pub open_holds : (t : Name) → is_closed (stage_of l.book t) ≡ false → So (took_in l.book b t) → book_holder l.book b l.book.writes ≡ some t
  open_holds t runs k =
      let live : is_retired (stage_of l.book t) ≡ false = false_of _ (λ r. clash (retired_closed (stage_of l.book t) r) runs) in
      holder_last l.book b l.book.writes ∙ rw (open_last t runs k, live) refl

  current : (es : List (Event Name Bytes)) → BlockInv (status l) (homed l b) (area_before l b) (home b) es → unless_retired l.book (last_holder es) ≡ none
      → home b ≡ value (area_before l b) es
  current [] g h = g.at_home
  current (e ∷ es) g h =
      cases (is_retired (stage_of l.book e.holder))
      (λ r. rw (g.chain.0.stored r) at g.at_home)
      (λ r. let e : some e.holder ≡ none = rw r at h in impossible cc)

  -- where there is no holder, the home image has all writes
  pub home_current : book_holder l.book b l.book.writes ≡ none → home b ≡ image_now l b
  unfolding image_now
  home_current h =
      current (history_of l b) (v.block_inv b) (sym (holder_last l.book b l.book.writes) ∙ h) ∙ sym (image_history (area_before l) l.book.writes b)
