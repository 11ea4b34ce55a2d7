-- A book after CLOSE, STORE, CHECKPOINT and RETIRE, which give one transaction its next stage, and after WRITE: what each leaves
-- of entries, holders and record sizes, and what CLOSE and WRITE do to the images. Ledger and service book are both such
-- books, so the layers share these laws.
use Prim.Native.Nat.{ℕ, suc, ◌+◌, ◌<◌}
use native.Mathlib.Omega.{arith}
use mathlib.Core.Path.{◌≡◌, refl, sym, ap, ◌∙◌}
use mathlib.Core.Logic.{◌⊎◌, inl, inr, ◌≢◌}
use mathlib.Core.Bool.{false, cond}
use mathlib.Core.List.{List, [], ◌∷◌, map}
use mathlib.Core.Option.{none, some}
use lib.ListN.{length}
use lib.Dec.{leb, eqb}
use borrow.Author.Tests.{le-leb, lt-leb, eq-eqb, ne_eqb}
use Rattle.model.specs.Bytes.{Bytes, replaced}
use Rattle.model.specs.Card.{new_name}
use Rattle.model.specs.declared.Name.{Name}
use Rattle.model.proofs.Lists.{cases}
use Rattle.model.proofs.Valid.{same_name_refl}
use Rattle.crash.specs.Book.{Stage, absent, running, closed, committed, retired, is_running, is_closed, is_retired, stage_count, Entry, Write, Book, change, raise, staged, begin, book_holder, Meeting, no_holder, own, running_holder, closed_holder, meets, ruled, holder_after, note, write_book, close_book, store_book, checkpoint_book, retire_book, image}
use Rattle.crash.specs.Ledger.{Ledger, with_book, image_now, close_ledger, record_blocks}
use Rattle.crash.proofs.Books.Tests.{impossible}
use Rattle.crash.proofs.Books.BookEntries.{next_name, uncommitted_name, oldest_name, same_or_not, same_name_false, change_at, change_other, change_by, met_holder, meets_met, meets_same, ruled_other, ruled_stage, ruled_blocks_other, holder_same, holder_live, records_same}

-- ---- one transaction gets another stage
pub record Restages (k k' : Book) (t : Name) (g : Stage) : Type 0 where
  pub opened : k'.opened ≡ k.opened
  pub writes : k'.writes ≡ k.writes
  pub stage : (k'.entry t).stage ≡ g
  pub other : (u : Name) → u ≢ t → k'.entry u ≡ k.entry u
  pub blocks : (u : Name) → (k'.entry u).blocks ≡ (k.entry u).blocks
  pub names : (u : Name) → (k'.entry u).names ≡ (k.entry u).names

abbrev pub restaged : Name → Stage → (ℕ → ℕ) → (ℕ → ℕ) → (ℕ → ℕ) → Book → Book
restaged t g oldest uncommitted next k =
    record { begun = k.begun; opened = k.opened; entry = change t (staged g) k.entry; writes = k.writes; oldest = oldest; uncommitted = uncommitted; next = next }

pub restages : (t : Name) (g : Stage) (o u n : ℕ → ℕ) (k : Book) → Restages k (restaged t g o u n k) t g
restages t g o u n k =
    record {
      opened = refl;
      writes = refl;
      stage = ap (λ e. e.stage) (change_at t (staged g) k.entry);
      other = change_other t (staged g) k.entry;
      blocks = change_by t (staged g) k.entry (λ e. e.blocks) refl;
      names = change_by t (staged g) k.entry (λ e. e.names) refl;
    }

module _ {k k' : Book} {t : Name} {g : Stage} (r : Restages k k' t g) where
  -- a property of stages that the one restaged keeps, all keep
  pub restages_keep : {A : Type 0} (p : Stage → A) → p g ≡ p (k.entry t).stage → (u : Name) → p (k'.entry u).stage ≡ p (k.entry u).stage
  restages_keep p h u = same_or_not u t (λ e. rw e (ap p r.stage ∙ h)) (λ ne. ap (λ e. p e.stage) (r.other u ne))

  pub restages_records : (c i n : ℕ) → record_blocks k' c i n ≡ record_blocks k c i n
  restages_records c i n = records_same k k' c i n (λ j a b. ap length (r.blocks (new_name c j)))

  pub restages_holder : is_retired g ≡ is_retired (k.entry t).stage → (b : ℕ) (ws : List Write) → book_holder k' b ws ≡ book_holder k b ws
  restages_holder h = holder_same k k' (restages_keep is_retired h)

-- what the retired one held has no holder; all else stays
module _ {k k' : Book} {t : Name} (r : Restages k k' t retired) (b : ℕ) where
  pub retired_none : (ws : List Write) → book_holder k b ws ≡ some t → book_holder k' b ws ≡ none
  unfolding book_holder
  retired_none [] h = impossible cc
  retired_none (w ∷ ws) h =
      cases (eqb b w.block)
      (λ e. cases (is_retired (k.entry w.holder).stage)
      (λ p. let q : book_holder k b (w ∷ ws) ≡ none = rw (e, p) in impossible cc)
      (λ p. let q : book_holder k b (w ∷ ws) ≡ some w.holder = rw (e, p) in let s : w.holder ≡ t = cc in rw (e, s, r.stage)))
      (λ e. rw e (retired_none ws (rw e at h)))

  pub retired_other : (ws : List Write) → book_holder k b ws ≢ some t → book_holder k' b ws ≡ book_holder k b ws
  unfolding book_holder
  retired_other [] h = refl
  retired_other (w ∷ ws) h =
      cases (eqb b w.block)
      (λ e. same_or_not w.holder t
      (λ q. cases (is_retired (k.entry t).stage) (λ p. rw (e, q, r.stage, p)) (λ p. absurd (h (rw (e, q, p)))))
      (λ ne. rw (e, r.other w.holder ne)))
      (λ e. rw e (retired_other ws (λ p. h (rw e p))))

-- ---- CLOSE
module _ (c : ℕ) (k : Book) where
  pub close_restages : Restages k (close_book c k) (next_name c k) (closed 0)
  unfolding close_book
  close_restages = restages (next_name c k) (closed 0) k.oldest k.uncommitted (raise c k.next) k

  pub close_holder : (k.entry (next_name c k)).stage ≡ running → (b : ℕ) (ws : List Write) → book_holder (close_book c k) b ws ≡ book_holder k b ws
  close_holder e = restages_holder close_restages (sym (ap is_retired e))

module _ (l : Ledger) (c : ℕ) where
  pub close_book_lem : (close_ledger c l).book ≡ close_book c l.book
  unfolding close_ledger
  close_book_lem = refl

  pub close_stamp : (close_ledger c l).stamp (next_name c l.book) ≡ suc l.closes
  unfolding close_ledger
  close_stamp = rw (same_name_refl (next_name c l.book))

  pub close_images : (close_ledger c l).images (next_name c l.book) ≡ map (image_now l) (l.book.entry (next_name c l.book)).blocks
  unfolding close_ledger
  close_images = rw (same_name_refl (next_name c l.book))

  pub close_stamp_other : (u : Name) → u ≢ next_name c l.book → (close_ledger c l).stamp u ≡ l.stamp u
  unfolding close_ledger
  close_stamp_other u ne = rw (same_name_false u (next_name c l.book) ne)

  pub close_images_other : (u : Name) → u ≢ next_name c l.book → (close_ledger c l).images u ≡ l.images u
  unfolding close_ledger
  close_images_other u ne = rw (same_name_false u (next_name c l.book) ne)

-- ---- STORE, CHECKPOINT and RETIRE
-- the stages that they give
abbrev pub stored_stage : Entry → Stage
stored_stage e = cond (leb (length e.blocks + 2) (suc (stage_count e.stage))) (committed 0) (closed (suc (stage_count e.stage)))

module _ (c : ℕ) (k : Book) where
  pub store_restages : Restages k (store_book c k) (uncommitted_name c k) (stored_stage (k.entry (uncommitted_name c k)))
  unfolding store_book
  store_restages = restages (uncommitted_name c k) (stored_stage (k.entry (uncommitted_name c k))) k.oldest (store_book c k).uncommitted k.next k

-- which of the two it is
module _ (c n : ℕ) (k : Book) where
  pub store_more : (k.entry (uncommitted_name c k)).stage ≡ closed n → n < length (k.entry (uncommitted_name c k)).blocks + 1
      → store_book c k ≡ restaged (uncommitted_name c k) (closed (suc n)) k.oldest k.uncommitted k.next k
  unfolding store_book
  store_more e h = rw (e, lt-leb (length (k.entry (uncommitted_name c k)).blocks + 2) (suc n) (omega arith))

  pub store_last : (k.entry (uncommitted_name c k)).stage ≡ closed n → n ≡ length (k.entry (uncommitted_name c k)).blocks + 1
      → store_book c k ≡ restaged (uncommitted_name c k) (committed 0) k.oldest (raise c k.uncommitted) k.next k
  unfolding store_book
  store_last e h = rw (e, le-leb (length (k.entry (uncommitted_name c k)).blocks + 2) (suc n) (omega arith))

  pub checkpoint_home : (k.entry (oldest_name c k)).stage ≡ committed n
      → checkpoint_book c k ≡ restaged (oldest_name c k) (committed (suc n)) k.oldest k.uncommitted k.next k
  unfolding checkpoint_book
  checkpoint_home e = rw e

  pub retire_restages : retire_book c k ≡ restaged (oldest_name c k) retired (raise c k.oldest) k.uncommitted k.next k
  unfolding retire_book
  retire_restages = refl

  pub store_holder : (k.entry (uncommitted_name c k)).stage ≡ closed n → (b : ℕ) (ws : List Write) → book_holder (store_book c k) b ws ≡ book_holder k b ws
  store_holder e =
      let d = k.entry (uncommitted_name c k) in
      restages_holder (store_restages c k)
      (cases (leb (length d.blocks + 2) (suc (stage_count d.stage))) (λ h. rw h (sym (ap is_retired e))) (λ h. rw h (sym (ap is_retired e))))

-- ---- WRITE
-- before the rules: the writer's transaction is open
abbrev pub begun : ℕ → Book → Book
begun c k = cond (is_running (k.entry (next_name c k)).stage) k (begin (next_name c k) k)

-- how a write of core c meets block b
abbrev pub meeting : ℕ → ℕ → Book → Meeting
meeting c b k = meets k (next_name c k) (book_holder k b k.writes)

module _ (k : Book) (c : ℕ) (current : ((k.entry (next_name c k)).stage ≡ absent) ⊎ ((k.entry (next_name c k)).stage ≡ running)) where
  pub begun_by : (P : Book → Type 0) → ((k.entry (next_name c k)).stage ≡ running → P k)
      → ((k.entry (next_name c k)).stage ≡ absent → P (begin (next_name c k) k)) → P (begun c k)
  begun_by P p q = elim current [ inl e ↦ rw (ap is_running e) (q e) | inr e ↦ rw (ap is_running e) (p e) ]

  pub begun_fields : ((begun c k).writes ≡ k.writes) × ((begun c k).oldest ≡ k.oldest) × ((begun c k).uncommitted ≡ k.uncommitted) × ((begun c k).next ≡ k.next)
  unfolding begin
  begun_fields = begun_by (λ x. (x.writes ≡ k.writes) × (x.oldest ≡ k.oldest) × (x.uncommitted ≡ k.uncommitted) × (x.next ≡ k.next))
      (λ e. (refl, refl, refl, refl)) (λ e. (refl, refl, refl, refl))

  pub begun_same : {A : Type 0} (g : Entry → A) → ((k.entry (next_name c k)).stage ≡ absent → g (staged running (k.entry (next_name c k))) ≡ g (k.entry (next_name c k)))
      → (u : Name) → g ((begun c k).entry u) ≡ g (k.entry u)
  unfolding begin
  begun_same g h u = begun_by (λ x. g (x.entry u) ≡ g (k.entry u)) (λ e. refl)
      (λ e. change_by (next_name c k) (staged running) k.entry g (h e) u)

  pub begun_other : (u : Name) → u ≢ next_name c k → (begun c k).entry u ≡ k.entry u
  unfolding begin
  begun_other u ne = begun_by (λ x. x.entry u ≡ k.entry u) (λ e. refl) (λ e. change_other (next_name c k) (staged running) k.entry u ne)

  pub begun_running : ((begun c k).entry (next_name c k)).stage ≡ running
  unfolding begin
  begun_running = begun_by (λ x. (x.entry (next_name c k)).stage ≡ running) (λ e. e)
      (λ e. ap (λ e. e.stage) (change_at (next_name c k) (staged running) k.entry))

  pub begun_holder : (x : ℕ) (ws : List Write) → book_holder (begun c k) x ws ≡ book_holder k x ws
  begun_holder = holder_same k (begun c k) (begun_same (λ e. is_retired e.stage) (λ e. sym (ap is_retired e)))

  pub begun_meets : (b : ℕ) → meets (begun c k) (next_name c k) (book_holder (begun c k) b (begun c k).writes) ≡ meets k (next_name c k) (book_holder k b k.writes)
  begun_meets b =
      ap (meets (begun c k) (next_name c k)) (begun_holder b (begun c k).writes ∙ ap (book_holder k b) begun_fields.0)
      ∙ meets_same k (next_name c k) (begun c k) (begun_same (λ e. is_closed e.stage) (λ e. sym (ap is_closed e))) (book_holder k b k.writes)

  module _ (b o : ℕ) (v : Bytes) where
    pub write_entry : (write_book c b o v k).entry ≡ ruled (meeting c b k) (next_name c k) b (begun c k).entry
    unfolding write_book note
    write_entry = ap (λ m. ruled m (next_name c k) b (begun c k).entry) (begun_meets b)

    pub write_writes : (write_book c b o v k).writes
        ≡ record { writer = next_name c k; holder = holder_after (meeting c b k) (next_name c k); block = b; offset = o; bytes = v } ∷ k.writes
    unfolding write_book note
    write_writes = rw (begun_meets b, begun_fields.0)

    pub write_numbers : ((write_book c b o v k).oldest ≡ k.oldest) × ((write_book c b o v k).uncommitted ≡ k.uncommitted) × ((write_book c b o v k).next ≡ k.next)
    unfolding write_book note
    write_numbers = (begun_fields.1, begun_fields.2, begun_fields.3)

    pub write_running : ((write_book c b o v k).entry (next_name c k)).stage ≡ running
    write_running = rw write_entry (ruled_stage (meeting c b k) (next_name c k) b (begun c k).entry (next_name c k) ∙ begun_running)

    pub write_stage : (u : Name) → u ≢ next_name c k → ((write_book c b o v k).entry u).stage ≡ (k.entry u).stage
    write_stage u ne = rw write_entry (ruled_stage (meeting c b k) (next_name c k) b (begun c k).entry u ∙ ap (λ e. e.stage) (begun_other u ne))

    pub write_blocks_other : (u : Name) → u ≢ next_name c k → ((write_book c b o v k).entry u).blocks ≡ (k.entry u).blocks
    write_blocks_other u ne =
        rw write_entry (ruled_blocks_other (meeting c b k) (next_name c k) b (begun c k).entry u ne ∙ ap (λ e. e.blocks) (begun_other u ne))

    pub write_other : (u : Name) → u ≢ next_name c k → meeting c b k ≢ running_holder u → (write_book c b o v k).entry u ≡ k.entry u
    write_other u ne nr = rw write_entry (ruled_other (meeting c b k) (next_name c k) b (begun c k).entry u ne nr ∙ begun_other u ne)

    write_retired : (u : Name) → is_retired ((write_book c b o v k).entry u).stage ≡ is_retired (k.entry u).stage
    write_retired u =
        rw write_entry (ap is_retired (ruled_stage (meeting c b k) (next_name c k) b (begun c k).entry u)
        ∙ begun_same (λ e. is_retired e.stage) (λ e. sym (ap is_retired e)) u)

    holder_stays_lem : (m : Meeting) → meeting c b k ≡ m → is_retired ((write_book c b o v k).entry (holder_after m (next_name c k))).stage ≡ false
    unfolding holder_after
    holder_stays_lem no_holder e = ap is_retired write_running
    holder_stays_lem own e = ap is_retired write_running
    holder_stays_lem (running_holder u) e =
        write_retired u ∙ holder_live k b k.writes u (meets_met k (next_name c k) (book_holder k b k.writes) u (ap met_holder e)).0
    holder_stays_lem (closed_holder u) e = ap is_retired write_running

    pub write_holder : book_holder (write_book c b o v k) b (write_book c b o v k).writes ≡ some (holder_after (meeting c b k) (next_name c k))
    unfolding book_holder
    write_holder = rw (write_writes, eq-eqb b b refl, holder_stays_lem (meeting c b k) refl)

    pub write_holder_other : (x : ℕ) → x ≢ b → book_holder (write_book c b o v k) x (write_book c b o v k).writes ≡ book_holder k x k.writes
    unfolding book_holder
    write_holder_other x ne =
        holder_same k (write_book c b o v k) write_retired x (write_book c b o v k).writes ∙ ap (book_holder k x) write_writes ∙ rw (ne_eqb x b ne)

-- ---- the current images after a WRITE
module _ (l : Ledger) (c b o : ℕ) (v : Bytes)
    (current : ((l.book.entry (next_name c l.book)).stage ≡ absent) ⊎ ((l.book.entry (next_name c l.book)).stage ≡ running)) where
  pub write_image : image_now (with_book l (write_book c b o v l.book)) b ≡ replaced o 4 (image_now l b) v
  unfolding image_now image
  write_image = rw (write_writes l.book c current b o v, eq-eqb b b refl)

  pub write_image_other : (x : ℕ) → x ≢ b → image_now (with_book l (write_book c b o v l.book)) x ≡ image_now l x
  unfolding image_now image
  write_image_other x ne = rw (write_writes l.book c current b o v, ne_eqb x b ne)
