-- What holds of a ledger and the home area from one coming up to the next cut: `Inv`.
-- Each block has its invariant (`BlockInv`), by what the ledger knows of the transactions; a transaction took the blocks that
-- it held after some write. Where a command only adds to what is known of transactions (`Grows`), these stay.
use Rattle.model.proofs.Base.{ℕ, ◌≤◌, ◌<◌, arith, ◌≡◌, refl, subst, fun_ext, inl, inr, ⊎_elim, Bool, true, false, cond, So, List}
use Rattle.model.proofs.Base.{[], ◌∷◌, Memᴰ, take, eqb, any, Bytes}
use Rattle.model.specs.Bytes.{replaced}
use Rattle.model.specs.Card.{same_name}
use Rattle.model.specs.declared.Name.{Name}
use Rattle.model.proofs.Lists.{cases}
use Rattle.crash.specs.Book.{Stage, absent, running, closed, committed, retired, is_closed, is_committed, is_retired, Write, Book, required_in, kept, image, blank}
use Rattle.crash.specs.Ledger.{Ledger}
use Rattle.crash.proofs.Books.Tests.{clash}
use Rattle.crash.proofs.Books.BookEntries.{by_stage}
use Rattle.crash.proofs.Blocks.History.{Event, value, upto, Took, Status, StatusSound, Chain, BlockInv}
use Rattle.crash.proofs.Blocks.Steps.{Extends, block_inv_extends}
use Rattle.crash.proofs.Books.Largest.{member_of, stage_of, lists_name, listed_requires, kept_largest, kept_more}

-- ---- the histories of a list of writes
abbrev pub event_of : Write → Event Name Bytes
event_of w = record { writer = w.writer; holder = w.holder; change = λ (s : Bytes). replaced w.offset 4 s w.bytes }

-- that of block b
abbrev pub history : ℕ → List Write → List (Event Name Bytes)
history b [] = []
history b (w ∷ ws) = cond (eqb b w.block) (event_of w ∷ history b ws) (history b ws)

pub image_history : (base : ℕ → Bytes) (ws : List Write) (b : ℕ) → image base ws b ≡ value (base b) (history b ws)
unfolding image
image_history base [] b = refl
image_history base (w ∷ ws) b =
    cases (eqb b w.block) (λ h. rw (h, image_history base ws b) refl) (λ h. rw (h, image_history base ws b) refl)

-- ---- what the ledger knows
-- the area as the card came up
abbrev pub area_before : Ledger → ℕ → Bytes
area_before l = image blank l.saved

abbrev pub history_of : Ledger → ℕ → List (Event Name Bytes)
history_of l b = history b l.book.writes

-- the image of block b that t holds: all writes up to the last one that it held
abbrev pub image_at : Ledger → Name → ℕ → Bytes
image_at l t b = value (area_before l b) (upto (same_name t) (history_of l b))

-- t took block b
abbrev pub took_in : Book → ℕ → Name → Bool
took_in k b t = any (eqb b) (k.entry t).blocks

-- a transaction with these blocks, come so far, has stored block b home
abbrev pub homed_by : ℕ → List ℕ → Stage → Bool
homed_by b bs absent = false
homed_by b bs running = false
homed_by b bs (closed n) = false
homed_by b bs (committed m) = any (eqb b) (take m bs)
homed_by b bs retired = any (eqb b) bs

abbrev pub homed : Ledger → ℕ → Name → Bool
homed l b t = homed_by b (l.book.entry t).blocks (stage_of l.book t)

abbrev pub status : Ledger → Status Name
status l =
    record {
      closed = λ (t : Name). is_closed (stage_of l.book t);
      retired = λ (t : Name). is_retired (stage_of l.book t);
      kept = member_of (kept l.book);
      stamp = l.stamp;
      names = lists_name l.book;
    }

-- ---- the stages
abbrev pub is_opened : Stage → Bool
is_opened absent = false
is_opened running = true
is_opened (closed n) = true
is_opened (committed m) = true
is_opened retired = true

pub closed_opened : (g : Stage) → So (is_closed g) → So (is_opened g)
closed_opened = by_stage (λ g. So (is_closed g) → So (is_opened g)) (λ h. h) (λ h. refl) (λ n h. refl) (λ n h. refl) (λ h. refl)

pub committed_closed : (g : Stage) → So (is_committed g) → So (is_closed g)
committed_closed = by_stage (λ g. So (is_committed g) → So (is_closed g)) (λ h. h) (λ h. h) (λ n h. refl) (λ n h. refl) (λ h. refl)

pub retired_closed : (g : Stage) → So (is_retired g) → So (is_closed g)
retired_closed = by_stage (λ g. So (is_retired g) → So (is_closed g)) (λ h. h) (λ h. h) (λ n h. refl) (λ n h. refl) (λ h. refl)

pub open_not_homed : (b : ℕ) (bs : List ℕ) (g : Stage) → is_closed g ≡ false → homed_by b bs g ≡ false
open_not_homed b bs =
    by_stage (λ g. is_closed g ≡ false → homed_by b bs g ≡ false) (λ h. refl) (λ h. refl) (λ n h. refl) (λ n h. clash refl h) (λ h. clash refl h)

-- ---- the invariant
abbrev pub AllOpened : Book → Type 0
AllOpened k = (t : Name) → So (is_opened (stage_of k t)) → Memᴰ t k.opened

pub record Inv (home : ℕ → Bytes) (l : Ledger) : Type 0 where
  pub block_inv : (b : ℕ) → BlockInv (status l) (homed l b) (area_before l b) (home b) (history_of l b)
  pub took : (b : ℕ) (t : Name) → So (took_in l.book b t) → Took t (history_of l b)
  pub taken : (b : ℕ) (t : Name) → Took t (history_of l b) → So (took_in l.book b t)
  pub stamps : (t : Name) → So (is_closed (stage_of l.book t)) → l.stamp t ≤ l.closes
  pub known : AllOpened l.book
  pub retired_kept : (t : Name) → So (is_retired (stage_of l.book t)) → So (member_of (kept l.book) t)

pub opened_of : (k : Book) → AllOpened k → (t : Name) → So (is_committed (stage_of k t)) → Memᴰ t k.opened
opened_of k known t h = known t (closed_opened (stage_of k t) (committed_closed (stage_of k t) h))

pub sound_of : (l : Ledger) → AllOpened l.book → ((t : Name) → So (is_retired (stage_of l.book t)) → So (member_of (kept l.book) t)) → StatusSound (status l)
sound_of l known r =
    record {
      kept_closed = λ t h. committed_closed (stage_of l.book t) ((kept_largest l.book (opened_of l.book known)).sub t h);
      kept_names = λ t u h n. ⊎_elim (λ p. p) (λ p. clash p refl) ((kept_largest l.book (opened_of l.book known)).closed t u h (listed_requires l.book t u n));
      retired_kept = r;
    }

stored_in : (s : Status Name) (h : Name → Bool) (es : List (Event Name Bytes)) → Chain s h es → (t : Name) → Took t es → So (s.retired t) → So (h t)
stored_in s h [] c t k r = absurd k
stored_in s h (e ∷ es) c t (inl k) r = rw k at (c.0.stored (rw k r))
stored_in s h (e ∷ es) c t (inr k) r = stored_in s h es c.2 t k r

-- a retired transaction has stored its blocks home
pub retired_homed : {home : ℕ → Bytes} {l : Ledger} → Inv home l → (b : ℕ) (t : Name) → Took t (history_of l b) → So (is_retired (stage_of l.book t)) → So (homed l b t)
retired_homed {l = l} v b t = stored_in (status l) (homed l b) (history_of l b) (v.block_inv b).chain t

-- ---- growth
-- what any command may do to a transaction: it never goes back, and from its close on its names and its stamp are fixed
pub record Grows (l l' : Ledger) (t : Name) : Type 0 where
  pub closed : So (is_closed (stage_of l.book t)) → So (is_closed (stage_of l'.book t))
  pub committed : So (is_committed (stage_of l.book t)) → So (is_committed (stage_of l'.book t))
  pub retired : So (is_retired (stage_of l.book t)) → So (is_retired (stage_of l'.book t))
  pub names : (u : Name) → So (lists_name l.book t u) → So (lists_name l'.book t u)
  pub required_fixed : So (is_closed (stage_of l.book t)) → required_in l'.book t ≡ required_in l.book t
  pub stamp_fixed : So (is_closed (stage_of l.book t)) → l'.stamp t ≡ l.stamp t
  pub stamp_new : is_closed (stage_of l.book t) ≡ false → So (is_closed (stage_of l'.book t)) → l.closes < l'.stamp t

module _ {home : ℕ → Bytes} {l : Ledger} (v : Inv home l) (l' : Ledger) (known : AllOpened l'.book) (grows : (t : Name) → Grows l l' t) where
  pub extends : Extends (status l) (status l')
  extends =
      record {
        closed = λ t. (grows t).closed;
        retired = λ t. (grows t).retired;
        kept =
            kept_more l.book l'.book (opened_of l.book v.known) (opened_of l'.book known)
            (λ t. (grows t).committed) (λ t u h n. rw ((grows t).required_fixed (committed_closed (stage_of l.book t) h)) at n);
        names = λ t u. (grows t).names u;
        lower =
            λ t u cu low ct. rw ((grows u).stamp_fixed cu)
            (cases (is_closed (stage_of l.book t))
            (λ h. rw ((grows t).stamp_fixed h) (low h))
            (λ h. omega (arith, (grows t).stamp_new h ct, v.stamps u cu)));
      }

  -- the invariant with h as those that stored home holds after the command, where h is then said by the ledger
  pub block_inv_grown : (b : ℕ) (image : Bytes) (h : Name → Bool) → BlockInv (status l) h (area_before l b) image (history_of l b)
      → ((t : Name) → Took t (history_of l b) → So (is_retired (stage_of l'.book t)) → So (h t)) → ((t : Name) → h t ≡ homed l' b t)
      → BlockInv (status l') (homed l' b) (area_before l b) image (history_of l b)
  block_inv_grown b image h g r e =
      subst (λ (h : Name → Bool). BlockInv (status l') h (area_before l b) image (history_of l b)) (fun_ext e)
      (block_inv_extends (status l) (status l') extends h (area_before l b) image (history_of l b) r g)
