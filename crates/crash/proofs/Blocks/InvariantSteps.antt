-- CLOSE, STORE, CHECKPOINT and RETIRE keep the invariant, as opening a transaction does; it holds of a card that has come up.
-- Each moves one transaction one stage on (`Moves`) and writes nothing. All but a home store leave alone who has stored
-- which block home; a home store adds one, whose older holders are retired since 33 did not apply.
use Rattle.model.proofs.Base.{ℕ, suc, ◌+◌, ◌≤◌, ◌<◌, arith, ◌≡◌, refl, sym, ap, subst, ◌∙◌, ◌≢◌, Bool, false, cond, ◌||◌, So}
use Rattle.model.proofs.Base.{List, [], ◌∷◌, Memᴰ, mem_head, mem_tail, length, take, get_or, take_all, take-suc}
use Rattle.model.proofs.Base.{eqb, leb, eqb-true, lt-ltb, any, Bytes}
use mathlib.Core.Bool.{or-false}
use Rattle.model.specs.Checkpoint.{share}
use Rattle.model.specs.declared.Name.{Name}
use Rattle.model.specs.Valid.{Order}
use Rattle.model.specs.declared.Shape.{Shape}
use Rattle.model.proofs.Lists.{cases, and_both, or_left, or_right, mem_any, any_append, get_or_mem}
use Rattle.model.proofs.Valid.{same_name_refl}
use Rattle.crash.specs.Book.{Stage, absent, running, closed, committed, retired, is_closed, is_committed, is_retired, Entry, Write, Book, empty_book, change, staged, begin, close_book, store_book, checkpoint_book, retire_book, kept, image, blank}
use Rattle.crash.specs.Ledger.{Ledger, fresh_ledger, with_book, close_ledger, shares_lower_in}
use Rattle.crash.proofs.Books.Tests.{clash, any_in, in_any, name_equality, block_equality}
use Rattle.crash.proofs.Books.BookEntries.{same_or_not, same_name_false, change_at, change_other, change_each, next_name, uncommitted_name, oldest_name}
use Rattle.crash.proofs.Books.BookSteps.{close_stamp, close_images_other, close_stamp_other}
use Rattle.crash.proofs.Blocks.History.{Took, BlockInv}
use Rattle.crash.proofs.Blocks.Steps.{with_one, block_inv_home}
use Rattle.crash.proofs.Books.Required.{required_same}
use Rattle.crash.proofs.Books.Largest.{member_of, stage_of}
use Rattle.crash.proofs.Blocks.Invariant.{history, area_before, history_of, image_at, took_in, homed_by, homed, status, is_opened, closed_opened, AllOpened, Inv, sound_of, retired_homed, Grows, extends, block_inv_grown}

pub inv_fresh : (o : Order) (s : Shape) (saved : List Write) (first : ℕ → ℕ) → Inv (image blank saved) (fresh_ledger o s saved first)
unfolding fresh_ledger empty_book any
inv_fresh o s saved first =
    record {
      block_inv = λ b. record { chain = tt; at_home = refl; homed_kept = λ t h. clash h refl };
      took = λ b t h. clash h refl;
      taken = λ b t k. absurd k;
      stamps = λ t h. clash h refl;
      known = λ t h. clash h refl;
      retired_kept = λ t h. clash h refl;
    }

-- ---- one stage on
pub data Moves : Stage → Stage → Type 0 where
  opens : Moves absent running
  closes : Moves running (closed 0)
  stores : {n : ℕ} → Moves (closed n) (closed (suc n))
  commits : {n : ℕ} → Moves (closed n) (committed 0)
  stores_home : {m : ℕ} → Moves (committed m) (committed (suc m))
  retires : {m : ℕ} → Moves (committed m) retired

record Onward (g g' : Stage) : Type 0 where
  closed : So (is_closed g) → So (is_closed g')
  committed : So (is_committed g) → So (is_committed g')
  retired : So (is_retired g) → So (is_retired g')

onward : {g g' : Stage} → Moves g g' → Onward g g'
onward opens = record { closed = λ h. h; committed = λ h. h; retired = λ h. h }
onward closes = record { closed = λ h. refl; committed = λ h. h; retired = λ h. h }
onward stores = record { closed = λ h. refl; committed = λ h. h; retired = λ h. h }
onward commits = record { closed = λ h. refl; committed = λ h. refl; retired = λ h. h }
onward stores_home = record { closed = λ h. refl; committed = λ h. refl; retired = λ h. h }
onward retires = record { closed = λ h. refl; committed = λ h. refl; retired = λ h. refl }

-- the ledger l' is l with t at stage g; one that closes gets the next stamp
pub record Staged (t : Name) (g : Stage) (l l' : Ledger) : Type 0 where
  pub moves : Moves (stage_of l.book t) g
  pub begun : l'.book.begun ≡ l.book.begun
  pub saved : l'.saved ≡ l.saved
  pub writes : l'.book.writes ≡ l.book.writes
  pub opened : (u : Name) → Memᴰ u l.book.opened → Memᴰ u l'.book.opened
  pub opened_t : Memᴰ t l'.book.opened
  pub entry : (u : Name) → l'.book.entry u ≡ change t (staged g) l.book.entry u
  pub closes : l.closes ≤ l'.closes
  pub stamp : (u : Name) → So (is_closed (stage_of l.book u)) → l'.stamp u ≡ l.stamp u
  pub stamp_new : is_closed (stage_of l.book t) ≡ false → So (is_closed g) → (l'.stamp t ≡ l'.closes) × (l.closes < l'.closes)
  pub images : (u : Name) → So (is_closed (stage_of l.book u)) → l'.images u ≡ l.images u

module _ {t : Name} {g : Stage} {l l' : Ledger} (m : Staged t g l l') where
  staged_t : l'.book.entry t ≡ staged g (l.book.entry t)
  staged_t = m.entry t ∙ change_at t (staged g) l.book.entry

  staged_other : (u : Name) → u ≢ t → l'.book.entry u ≡ l.book.entry u
  staged_other u h = m.entry u ∙ change_other t (staged g) l.book.entry u h

  pub staged_each : (P : Name → Entry → Type 0) → P t (staged g (l.book.entry t)) → ((u : Name) → u ≢ t → P u (l.book.entry u))
      → (u : Name) → P u (l'.book.entry u)
  staged_each P a b u = rw (m.entry u) (change_each P t (staged g) l.book.entry a b u)

  pub staged_blocks : (u : Name) → (l'.book.entry u).blocks ≡ (l.book.entry u).blocks
  staged_blocks = staged_each (λ u e. e.blocks ≡ (l.book.entry u).blocks) refl (λ u h. refl)

  staged_known : AllOpened l.book → AllOpened l'.book
  staged_known known =
      staged_each (λ u e. So (is_opened e.stage) → Memᴰ u l'.book.opened) (λ h. m.opened_t) (λ u n h. m.opened u (known u h))

  staged_grows : (u : Name) → Grows l l' u
  staged_grows u =
      same_or_not u t
      (λ e. let g_is : stage_of l'.book t ≡ g = ap (λ e. e.stage) staged_t in
      rw e
      (record {
        closed = λ h. rw g_is ((onward m.moves).closed h);
        committed = λ h. rw g_is ((onward m.moves).committed h);
        retired = λ h. rw g_is ((onward m.moves).retired h);
        names = λ u h. rw staged_t h;
        required_fixed = λ h. required_same l.book l'.book t m.begun (ap (λ e. e.names) staged_t);
        stamp_fixed = m.stamp t;
        stamp_new = λ p q. let n : (l'.stamp t ≡ l'.closes) × (l.closes < l'.closes) = m.stamp_new p (rw g_is at q) in omega arith;
      }))
      (λ ne. let same : l'.book.entry u ≡ l.book.entry u = staged_other u ne in
      let stage : stage_of l'.book u ≡ stage_of l.book u = ap (λ e. e.stage) same in
      record {
        closed = λ h. rw stage h;
        committed = λ h. rw stage h;
        retired = λ h. rw stage h;
        names = λ u h. rw same h;
        required_fixed = λ h. required_same l.book l'.book u m.begun (ap (λ e. e.names) same);
        stamp_fixed = m.stamp u;
        stamp_new = λ p q. clash (rw stage at q) p;
      })

  module _ {home : ℕ → Bytes} (v : Inv home l) where
    staged_stamps : (u : Name) → So (is_closed (stage_of l'.book u)) → l'.stamp u ≤ l'.closes
    staged_stamps u q =
        cases (is_closed (stage_of l.book u))
        (λ h. omega (arith, m.closes, m.stamp u h, v.stamps u h))
        (λ h. staged_each (λ u e. is_closed (stage_of l.book u) ≡ false → So (is_closed e.stage) → l'.stamp u ≤ l'.closes)
        (λ h q. omega (arith, (m.stamp_new h q).0)) (λ u n h q. clash q h) u h q)

    -- the invariant with h as those that stored home stays, where the ledger says then of each that it is in h
    staged_block_inv : (b : ℕ) (image : Bytes) (h : Name → Bool) → BlockInv (status l) h (area_before l b) image (history_of l b)
        → ((u : Name) → Took u (history_of l b) → So (is_retired (stage_of l'.book u)) → So (h u))
        → h t ≡ homed_by b (l.book.entry t).blocks g → ((u : Name) → u ≢ t → h u ≡ homed l b u)
        → BlockInv (status l') (homed l' b) (area_before l b) image (history_of l b)
    staged_block_inv b image h good stored at_t others =
        block_inv_grown v l' (staged_known v.known) staged_grows b image h good stored (staged_each (λ u e. h u ≡ homed_by b e.blocks e.stage) at_t others)

    -- whoever retires is kept and has stored its blocks home
    module _ (retiring : So (is_retired g) → So (member_of (kept l.book) t) × ((b : ℕ) → So (took_in l.book b t) → So (homed l b t))) where
      staged_retired : (u : Name) → So (is_retired (stage_of l'.book u)) → So (member_of (kept l.book) u)
      staged_retired =
          staged_each (λ u e. So (is_retired e.stage) → So (member_of (kept l.book) u)) (λ r. (retiring r).0) (λ u h r. v.retired_kept u r)

      staged_stored : (b : ℕ) (u : Name) → Took u (history_of l b) → So (is_retired (stage_of l'.book u)) → So (homed l b u)
      staged_stored b u k r =
          staged_each (λ u e. Took u (history_of l b) → So (is_retired e.stage) → So (homed l b u))
          (λ k r. (retiring r).1 b (v.taken b t k)) (λ u h k r. retired_homed v b u k r) u k r

      -- the home area may change too, as long as each block has its invariant
      inv_by_block_inv : {home' : ℕ → Bytes} → ((b : ℕ) → BlockInv (status l') (homed l' b) (area_before l b) (home' b) (history_of l b)) → Inv home' l'
      inv_by_block_inv {home'} good =
          record {
            block_inv =
                λ b. subst (λ (saved : List Write). BlockInv (status l') (homed l' b) (image blank saved b) (home' b) (history_of l' b)) (sym m.saved)
                (subst (λ (ws : List Write). BlockInv (status l') (homed l' b) (area_before l b) (home' b) (history b ws)) (sym m.writes) (good b));
            took = λ b u h. rw m.writes (v.took b u (rw (staged_blocks u) at h));
            taken = λ b u k. rw (staged_blocks u) (v.taken b u (rw m.writes at k));
            stamps = staged_stamps;
            known = staged_known v.known;
            retired_kept = λ u r. (extends v l' (staged_known v.known) staged_grows).kept u (staged_retired u r);
          }

      inv_staged : ((b : ℕ) → homed_by b (l.book.entry t).blocks g ≡ homed l b t) → Inv home l'
      inv_staged homes =
          inv_by_block_inv (λ b. staged_block_inv b (home b) (homed l b) (v.block_inv b) (staged_stored b) (sym (homes b)) (λ u h. refl))

-- a command that changes the book alone
book_staged : (l : Ledger) (k : Book) (t : Name) (g : Stage) → k.begun ≡ l.book.begun → Moves (stage_of l.book t) g → k.writes ≡ l.book.writes
    → ((u : Name) → Memᴰ u l.book.opened → Memᴰ u k.opened) → Memᴰ t k.opened
    → ((u : Name) → k.entry u ≡ change t (staged g) l.book.entry u) → (So (is_closed g) → So (is_closed (stage_of l.book t)))
    → Staged t g l (with_book l k)
book_staged l k t g begun moves writes opened opened_t entry was_closed =
    record {
      moves = moves;
      begun = begun;
      saved = refl;
      writes = writes;
      opened = opened;
      opened_t = opened_t;
      entry = entry;
      closes = omega arith;
      stamp = λ u h. refl;
      stamp_new = λ p q. clash (was_closed q) p;
      images = λ u h. refl;
    }

-- where 33 does not apply to t, each closed one that took a block of it with a lower stamp is retired
pub lower_retired : {home : ℕ → Bytes} {l : Ledger} → Inv home l → (t : Name) → shares_lower_in l t ≡ false → (b : ℕ) → So (took_in l.book b t)
    → (u : Name) → So (took_in l.book b u) → So (is_closed (stage_of l.book u)) → l.stamp u < l.stamp t → So (is_retired (stage_of l.book u))
unfolding shares_lower_in share
lower_retired {l = l} v t none_lower b k u k' h low =
    cases (is_retired (stage_of l.book u)) (λ r. r)
    (λ r. clash
    (mem_any _ (v.known u (closed_opened (stage_of l.book u) h))
    (and_both (and_both (and_both h (rw r refl)) (lt-ltb (l.stamp u) (l.stamp t) low))
    (mem_any (λ b. took_in l.book b u) (any_in block_equality b _ k) k')))
    none_lower)

-- ---- a WRITE that opens a transaction
pub begin_staged : (l : Ledger) (t : Name) → stage_of l.book t ≡ absent → Staged t running l (with_book l (begin t l.book))
unfolding begin
begin_staged l t r =
    book_staged l (begin t l.book) t running refl (rw r opens) refl (λ u h. mem_tail h) (mem_head refl) (λ u. refl) (λ h. clash h refl)

pub inv_begin : {home : ℕ → Bytes} {l : Ledger} → Inv home l → (t : Name) → stage_of l.book t ≡ absent → Inv home (with_book l (begin t l.book))
inv_begin {l = l} v t r = inv_staged (begin_staged l t r) v (λ h. clash h refl) (λ b. rw r refl)

module _ {home : ℕ → Bytes} {l : Ledger} (v : Inv home l) (c : ℕ) where
  -- ---- CLOSE
  module _ (r : stage_of l.book (next_name c l.book) ≡ running) where
    closed_other : (u : Name) → So (is_closed (stage_of l.book u)) → u ≢ next_name c l.book
    closed_other u h e = clash h (rw (e, r) refl)

    pub close_staged : Staged (next_name c l.book) (closed 0) l (close_ledger c l)
    unfolding close_ledger close_book
    close_staged =
        record {
          moves = rw r closes;
          begun = refl;
          saved = refl;
          writes = refl;
          opened = λ u h. h;
          opened_t = v.known (next_name c l.book) (rw r refl);
          entry = λ u. refl;
          closes = omega arith;
          stamp = λ u h. close_stamp_other l c u (closed_other u h);
          stamp_new = λ p q. (close_stamp l c, omega arith);
          images = λ u h. close_images_other l c u (closed_other u h);
        }

    pub inv_close : Inv home (close_ledger c l)
    inv_close = inv_staged close_staged v (λ h. clash h refl) (λ b. rw r refl)

  -- ---- STORE: the last one commits
  module _ (n : ℕ) (r : stage_of l.book (uncommitted_name c l.book) ≡ closed n) where
    abbrev is_last_store : Bool
    is_last_store = leb (length (l.book.entry (uncommitted_name c l.book)).blocks + 2) (suc n)

    pub store_staged : Staged (uncommitted_name c l.book) (cond is_last_store (committed 0) (closed (suc n))) l (with_book l (store_book c l.book))
    unfolding store_book
    store_staged =
        book_staged l (store_book c l.book) (uncommitted_name c l.book) (cond is_last_store (committed 0) (closed (suc n))) refl
        (rw r (cases is_last_store (λ h. rw h commits) (λ h. rw h stores)))
        refl (λ u h. h) (v.known (uncommitted_name c l.book) (rw r refl)) (λ u. rw r refl) (λ h. rw r refl)

    pub inv_store : Inv home (with_book l (store_book c l.book))
    unfolding any
    inv_store =
        inv_staged store_staged v
        (λ h. cases is_last_store (λ e. clash (rw e at h) refl) (λ e. clash (rw e at h) refl))
        (λ b. rw r (cases is_last_store (λ h. rw h refl) (λ h. rw h refl)))

  -- ---- CHECKPOINT and RETIRE
  module _ (m : ℕ) (r : stage_of l.book (oldest_name c l.book) ≡ committed m) where
    abbrev oldest_blocks : List ℕ
    oldest_blocks = (l.book.entry (oldest_name c l.book)).blocks

    abbrev checkpointed : Ledger
    checkpointed = with_book l (checkpoint_book c l.book)

    pub retire_staged : Staged (oldest_name c l.book) retired l (with_book l (retire_book c l.book))
    unfolding retire_book
    retire_staged =
        book_staged l (retire_book c l.book) (oldest_name c l.book) retired refl (rw r retires)
        refl (λ u h. h) (v.known (oldest_name c l.book) (rw r refl)) (λ u. refl) (λ h. rw r refl)

    pub home_staged : Staged (oldest_name c l.book) (committed (suc m)) l (with_book l (checkpoint_book c l.book))
    unfolding checkpoint_book
    home_staged =
        book_staged l (checkpoint_book c l.book) (oldest_name c l.book) (committed (suc m)) refl (rw r stores_home)
        refl (λ u h. h) (v.known (oldest_name c l.book) (rw r refl)) (λ u. rw r refl) (λ h. rw r refl)

    module _ (is_kept : So (member_of (kept l.book) (oldest_name c l.book))) where
      -- the master store, after the home stores of all its blocks
      pub inv_retire : length oldest_blocks ≤ m → Inv home (with_book l (retire_book c l.book))
      inv_retire h =
          let whole : take m oldest_blocks ≡ oldest_blocks = take_all m oldest_blocks h in
          inv_staged retire_staged v (λ q. (is_kept, λ b k. rw (r, whole) k)) (λ b. rw (r, whole) refl)

      -- a home store, of its m-th block; 33 does not apply: each closed one that took the block with a lower stamp is retired
      module _ (less : m < length oldest_blocks)
          (lower_retired : (u : Name) → So (took_in l.book (get_or oldest_blocks m 0) u) → So (is_closed (stage_of l.book u))
          → l.stamp u < l.stamp (oldest_name c l.book) → So (is_retired (stage_of l.book u))) where
        abbrev home_block : ℕ
        home_block = get_or oldest_blocks m 0

        abbrev home_image : Bytes
        home_image = image_at l (oldest_name c l.book) home_block

        homed_next : (b : ℕ) → homed_by b oldest_blocks (committed (suc m)) ≡ (homed l b (oldest_name c l.book) || eqb b home_block)
        unfolding any
        homed_next b = rw (r, take-suc oldest_blocks m 0 less, any_append (eqb b) (take m oldest_blocks) (home_block ∷ []), or-false (eqb b home_block)) refl

        block_inv_other : (b : ℕ) → eqb b home_block ≡ false → BlockInv (status checkpointed) (homed checkpointed b) (area_before l b) (home b) (history_of l b)
        block_inv_other b e =
            staged_block_inv home_staged v b (home b) (homed l b) (v.block_inv b)
            (staged_stored home_staged v (λ h. clash h refl) b)
            (sym (homed_next b ∙ rw e (or-false (homed l b (oldest_name c l.book))))) (λ u h. refl)

        block_inv_here : BlockInv (status checkpointed) (homed checkpointed home_block) (area_before l home_block) home_image (history_of l home_block)
        block_inv_here =
            let t : Name = oldest_name c l.book in
            staged_block_inv home_staged v home_block home_image (with_one name_equality (homed l home_block) t)
            (block_inv_home name_equality (status l) (sound_of l v.known v.retired_kept) (homed l home_block) t is_kept
            (area_before l home_block) (home home_block) (history_of l home_block) (rw r refl)
            (v.took home_block t (in_any block_equality (get_or_mem oldest_blocks m 0 less)))
            (λ u k. lower_retired u (v.taken home_block u k)) (v.block_inv home_block))
            (λ u k h. or_left _ (staged_stored home_staged v (λ q. clash q refl) home_block u k h))
            (or_right (homed l home_block t) (same_name_refl t)
            ∙ sym (homed_next home_block ∙ or_right (homed l home_block t) (block_equality.is_refl home_block)))
            (λ u ne. rw (same_name_false t u (λ e. ne (sym e))) (or-false (homed l home_block u)))

        pub inv_home_store : Inv (λ b. cond (eqb b (get_or oldest_blocks m 0)) (image_at l (oldest_name c l.book) (get_or oldest_blocks m 0)) (home b)) (with_book l (checkpoint_book c l.book))
        inv_home_store =
            inv_by_block_inv home_staged v (λ h. clash h refl)
            (λ b. cases (eqb b home_block)
            (λ e. rw (eqb-true b home_block e, block_equality.is_refl home_block) block_inv_here)
            (λ e. rw e (block_inv_other b e)))
