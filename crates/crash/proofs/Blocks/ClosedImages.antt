-- The images that the ledger notes at CLOSE are those of the histories: `Imaged`, kept by every command.
-- At CLOSE the running transaction that took a block still holds it, so the block's history up to its last held write is
-- the whole history. From then on no write is held by it, so that part of the history stays as it is.
use Rattle.model.proofs.Base.{ℕ, ◌<◌, ◌≡◌, refl, sym, ap, fun_ext, ◌∙◌, ◌⊎◌, false, So, some, List, [], ◌∷◌, map, length}
use Rattle.model.proofs.Base.{get_or, eqb, Bytes}
use Rattle.model.specs.Valid.{Order}
use Rattle.model.specs.Card.{same_name}
use Rattle.model.specs.declared.Name.{Name}
use Rattle.model.specs.declared.Shape.{Shape}
use Rattle.model.proofs.Lists.{cases, map_same, get_or_map}
use Rattle.model.proofs.Valid.{same_name_true, same_name_refl}
use Rattle.crash.specs.Book.{Stage, absent, running, closed, committed, is_closed, Entry, Write, empty_book, begin, store_book, checkpoint_book, retire_book, book_holder, Meeting, meets, ruled, holder_after, note, write_book, Book}
use Rattle.crash.specs.Ledger.{Ledger, fresh_ledger, with_book, image_now, close_ledger}
use Rattle.crash.proofs.Books.Tests.{clash, false_of, in_any, block_equality}
use Rattle.crash.proofs.Books.BookEntries.{next_name, uncommitted_name, oldest_name}
use Rattle.crash.proofs.Books.BookSteps.{begun, begun_by, begun_running, close_images}
use Rattle.crash.proofs.Blocks.History.{Event, value, upto}
use Rattle.crash.proofs.Books.Largest.{stage_of}
use Rattle.crash.proofs.Blocks.Invariant.{image_history, area_before, history_of, image_at, took_in, Inv}
use Rattle.crash.proofs.Blocks.InvariantSteps.{Staged, staged_each, staged_blocks, begin_staged, close_staged, store_staged, retire_staged, home_staged}
use Rattle.crash.proofs.Blocks.InvariantWrite.{WriteEdits, with_write, last_holder, open_last, meets_ruled, rule_edits, rule_open}

abbrev pub Imaged : Ledger → Type 0
Imaged l = (t : Name) → So (is_closed (stage_of l.book t)) → l.images t ≡ map (image_at l t) (l.book.entry t).blocks

-- of the i-th block that a closed transaction took
pub image_of_closed : (l : Ledger) → Imaged l → (t : Name) → So (is_closed (stage_of l.book t)) → (i : ℕ) → i < length (l.book.entry t).blocks
    → get_or (l.images t) i [] ≡ image_at l t (get_or (l.book.entry t).blocks i 0)
image_of_closed l imaged t h i less = rw (imaged t h) (get_or_map (image_at l t) (l.book.entry t).blocks i 0 [] less)

pub imaged_fresh : (o : Order) (s : Shape) (saved : List Write) (first : ℕ → ℕ) → Imaged (fresh_ledger o s saved first)
unfolding fresh_ledger empty_book
imaged_fresh o s saved first = λ t h. clash h refl

-- ---- commands that write nothing
module _ {t : Name} {g : Stage} {l l' : Ledger} (m : Staged t g l l') where
  moved_image : (u : Name) → image_at l' u ≡ image_at l u
  moved_image u = fun_ext (λ b. rw (m.saved, m.writes) refl)

  imaged_moved : (is_closed (stage_of l.book t) ≡ false → So (is_closed g) → l'.images t ≡ map (image_at l t) (l.book.entry t).blocks) → Imaged l → Imaged l'
  imaged_moved closing imaged u h =
      cases (is_closed (stage_of l.book u))
      (λ was. m.images u was ∙ imaged u was)
      (λ was. staged_each m (λ u e. is_closed (stage_of l.book u) ≡ false → So (is_closed e.stage) → l'.images u ≡ map (image_at l u) (l.book.entry u).blocks)
      closing (λ u n p q. clash q p) u was h)
      ∙ rw (moved_image u, staged_blocks m u) refl

imaged_begin : (l : Ledger) → Imaged l → (t : Name) → stage_of l.book t ≡ absent → Imaged (with_book l (begin t l.book))
imaged_begin l imaged t r = imaged_moved (begin_staged l t r) (λ p q. clash q refl) imaged

upto_last : (t : Name) (es : List (Event Name Bytes)) → last_holder es ≡ some t → upto (same_name t) es ≡ es
upto_last t [] q = refl
upto_last t (e ∷ es) q = let holds : e.holder ≡ t = cc in rw (holds, same_name_refl t) refl

module _ {home : ℕ → Bytes} {l : Ledger} (v : Inv home l) (imaged : Imaged l) where
  image_now_lem : (b : ℕ) (t : Name) → is_closed (stage_of l.book t) ≡ false → So (took_in l.book b t) → image_now l b ≡ image_at l t b
  unfolding image_now
  image_now_lem b t runs k =
      image_history (area_before l) l.book.writes b ∙ ap (value (area_before l b)) (sym (upto_last t (history_of l b) (open_last v b t runs k)))

  module _ (c : ℕ) where
    pub imaged_close : stage_of l.book (next_name c l.book) ≡ running → Imaged (close_ledger c l)
    imaged_close r =
        imaged_moved (close_staged v c r)
        (λ runs q. close_images l c
        ∙ map_same (image_now l) (image_at l (next_name c l.book)) (l.book.entry (next_name c l.book)).blocks (λ b m. image_now_lem b (next_name c l.book) runs (in_any block_equality m)))
        imaged

    pub imaged_store : (n : ℕ) → stage_of l.book (uncommitted_name c l.book) ≡ closed n → Imaged (with_book l (store_book c l.book))
    imaged_store n r = imaged_moved (store_staged v c n r) (λ p q. clash (rw r refl) p) imaged

    module _ (m : ℕ) (r : stage_of l.book (oldest_name c l.book) ≡ committed m) where
      pub imaged_retire : Imaged (with_book l (retire_book c l.book))
      imaged_retire = imaged_moved (retire_staged v c m r) (λ p q. clash (rw r refl) p) imaged

      pub imaged_home_store : Imaged (with_book l (checkpoint_book c l.book))
      imaged_home_store = imaged_moved (home_staged v c m r) (λ p q. clash (rw r refl) p) imaged

-- ---- WRITE
module _ (l : Ledger) (w : Write) (entry : Name → Entry) (edits : (u : Name) → WriteEdits (l.book.entry u) (entry u))
    (open_holder : is_closed (stage_of l.book w.holder) ≡ false) (imaged : Imaged l) where
  -- the write is held by one that has not closed
  written_image : (t : Name) → So (is_closed (stage_of l.book t)) → (b : ℕ) → image_at (with_write l w entry) t b ≡ image_at l t b
  written_image t h b =
      let other : same_name t w.holder ≡ false = false_of _ (λ e. clash h (rw (same_name_true t w.holder e) open_holder)) in
      cases (eqb b w.block) (λ k. rw (k, other) refl) (λ k. rw k refl)

  imaged_written : Imaged (with_write l w entry)
  imaged_written t h =
      let was : So (is_closed (stage_of l.book t)) = rw (edits t).stage at h in
      imaged t was ∙ rw ((edits t).fixed was).1 (ap (λ f. map f (l.book.entry t).blocks) (sym (fun_ext (written_image t was))))

imaged_note : (l : Ledger) → Imaged l → (t : Name) → is_closed (stage_of l.book t) ≡ false → (b o : ℕ) (bytes : Bytes) → Imaged (with_book l (note t b o bytes l.book))
unfolding note
imaged_note l imaged t runs b o bytes =
    let m : Meeting = meets l.book t (book_holder l.book b l.book.writes) in
    imaged_written l (record { writer = t; holder = holder_after m t; block = b; offset = o; bytes = bytes }) (ruled m t b l.book.entry)
    (rule_edits l t runs b m (meets_ruled l t b)) (rule_open l t runs b m (meets_ruled l t b)) imaged

pub imaged_write : (l : Ledger) → Imaged l → (c b o : ℕ) (bytes : Bytes)
    → (stage_of l.book (next_name c l.book) ≡ absent) ⊎ (stage_of l.book (next_name c l.book) ≡ running)
    → Imaged (with_book l (write_book c b o bytes l.book))
unfolding write_book
imaged_write l imaged c b o bytes current =
    let t : Name = next_name c l.book in
    imaged_note (with_book l (begun c l.book))
    (begun_by l.book c current (λ (k : Book). Imaged (with_book l k)) (λ e. imaged) (λ e. imaged_begin l imaged t e)) t
    (ap is_closed (begun_running l.book c current)) b o bytes
