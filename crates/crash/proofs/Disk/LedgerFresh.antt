-- The ledger of a card that has just come up is in order, and stays so over CUT and a home store of RECOVER, which leave
-- its transactions as they are. Current images are blocks of bytes, and every write that is kept fits the disk.
use Rattle.model.proofs.Base.{ℕ, ◌+◌, ◌≤◌, ◌<◌, arith, ◌≡◌, refl, ◌∙◌, inl, inr, List, [], ◌∷◌, ◌++◌, Memᴰ, mem_head}
use Rattle.model.proofs.Base.{mem_tail, mem_not_nil, mem_append_cases, length, length-replicate, eqb, all}
use Rattle.model.proofs.Base.{Bytes}
use Rattle.model.specs.Bytes.{replaced}
use Rattle.model.specs.Valid.{in_sequence}
use Rattle.model.specs.declared.Phase.{Phase}
use Rattle.model.specs.declared.Phase.TheVariants.{Down}
use Rattle.model.specs.declared.Shape.{Shape}
use Rattle.model.specs.declared.Name.{Name}
use Rattle.model.proofs.Limits.{InRange}
use Rattle.model.proofs.Lists.{cases}
use Rattle.model.proofs.Store.{length_replaced}
use Rattle.model.proofs.Select.{select_mem}
use Rattle.crash.specs.Book.{Write, empty_book, kept_writes, image, blank}
use Rattle.crash.specs.Ledger.{Ledger, fresh_ledger, image_now, cut_ledger, recover_ledger, blocks_in}
use Rattle.crash.specs.Claims.{IsBytes}
use Rattle.crash.proofs.Books.Tests.{impossible}
use Rattle.crash.proofs.Disk.BlockBytes.{bytes_replaced}
use Rattle.crash.proofs.Disk.Relation.{IsBlock, WriteFits, Frozen, WellFormed}

-- ---- current images are blocks of bytes
replaced_block : (o : ℕ) (x v : Bytes) → o ≤ 124 → length v ≡ 4 → IsBytes v → IsBlock x → IsBlock (replaced o 4 x v)
replaced_block o x v h n bv i =
    let fits : o + 4 ≤ length x = omega arith in
    record { size = length_replaced o 4 x v fits n ∙ i.size; bytes = bytes_replaced o 4 x v i.bytes bv }

pub image_block : (s : Shape) (base : ℕ → Bytes) (b : ℕ) → IsBlock (base b) → (ws : List Write) → ((w : Write) → Memᴰ w ws → WriteFits s w) → IsBlock (image base ws b)
unfolding image
image_block s base b h [] fits = h
image_block s base b h (w ∷ ws) fits =
    let rest = image_block s base b h ws (λ x m. fits x (mem_tail m)) in
    let fit = fits w (mem_head refl) in
    cases (eqb b w.block)
    (λ e. rw e (replaced_block w.offset (image base ws b) w.bytes fit.offset fit.size fit.bytes rest))
    (λ e. rw e rest)

pub blank_block : (b : ℕ) → IsBlock (blank b)
unfolding blank all
blank_block b = record { size = length-replicate {A = ℕ} 128 0; bytes = refl }

pub now_block : (l : Ledger) → WellFormed l → (b : ℕ) → IsBlock (image_now l b)
unfolding image_now
now_block l f b =
    image_block l.shape (image blank l.saved) b (image_block l.shape blank b (blank_block b) l.saved f.saved) l.book.writes f.writes

-- ---- a card that has come up, a cut, a home store of recovery
pub well_formed_fresh : (s : Shape) (saved : List Write) (first : ℕ → ℕ) → InRange s → ((w : Write) → Memᴰ w saved → WriteFits s w)
    → ((c : ℕ) → c < s.cores → (1 ≤ first c) × (first c ≤ 4000000001)) → WellFormed (fresh_ledger in_sequence s saved first)
unfolding fresh_ledger empty_book
well_formed_fresh s saved first r fits firsts =
    record {
      sequence = refl;
      range = r;
      ranks = λ c h.
          let lo = (firsts c h).0 in
          let hi = (firsts c h).1 in
          record {
            below = record { positive = lo; from_first = omega arith; old = λ i g. inl refl; all_retired = λ i g h. absurd (omega arith) };
            low = omega arith;
            mid = omega arith;
            top = hi;
            first = λ g. absurd (omega arith);
            done = λ i g j. absurd (omega arith);
            waiting = λ i g j. absurd (omega arith);
            current = inl refl;
            rest = λ i g. refl;
          };
      far = λ t h. refl;
      limits = λ t h. absurd (h refl);
      unopened = λ t h. (refl, refl);
      named = λ t u m. absurd (mem_not_nil m);
      frozen = λ t h. impossible cc;
      stamps = λ t u h. impossible cc;
      ascending = λ c i j lt h. impossible cc;
      closes = omega arith;
      opened = λ t m. absurd (mem_not_nil m);
      known = λ t h. absurd (h refl);
      writes = λ w m. absurd (mem_not_nil m);
      saved = fits;
    }

-- a ledger with the same transactions
pub same_frozen : (l l' : Ledger) (t : Name) → l'.images t ≡ l.images t → l'.stamp t ≡ l.stamp t → l'.closes ≡ l.closes
    → (l'.book.entry t).blocks ≡ (l.book.entry t).blocks → Frozen l t → Frozen l' t
same_frozen l l' t i s c b z =
    record { count = rw (i, b) z.count; images = rw i z.images; low = rw s z.low; high = rw (s, c) z.high }

-- phase and blocks left to recover are no part of the order
abbrev pub with_phase : Phase → List ℕ → Ledger → Ledger
with_phase p left l =
    record { shape = l.shape; saved = l.saved; book = l.book; closes = l.closes; stamp = l.stamp; images = l.images; phase = p; left = left }

well_formed_with_phase : (l : Ledger) (p : Phase) (left : List ℕ) → WellFormed l → WellFormed (with_phase p left l)
well_formed_with_phase l p left f =
    record {
      sequence = f.sequence;
      range = f.range;
      ranks = f.ranks;
      far = f.far;
      limits = f.limits;
      unopened = f.unopened;
      named = f.named;
      frozen = λ t h. same_frozen l _ t refl refl refl refl (f.frozen t h);
      stamps = f.stamps;
      ascending = f.ascending;
      closes = f.closes;
      opened = f.opened;
      known = f.known;
      writes = f.writes;
      saved = f.saved;
    }

pub well_formed_cut : (l : Ledger) → WellFormed l → WellFormed (cut_ledger l)
unfolding cut_ledger
well_formed_cut l = well_formed_with_phase l Down (blocks_in l.shape.blocks l.book)

pub well_formed_home : (b : ℕ) (bs : List ℕ) (l : Ledger) → WellFormed l → WellFormed (recover_ledger (b ∷ bs) l)
unfolding recover_ledger
well_formed_home b bs l = well_formed_with_phase l Down bs

pub kept_fits : (l : Ledger) → WellFormed l → (w : Write) → Memᴰ w (kept_writes l.book ++ l.saved) → WriteFits l.shape w
unfolding kept_writes
kept_fits l f w m =
    elim (mem_append_cases (kept_writes l.book) m) [ inl p ↦ f.writes w (select_mem _ l.book.writes w p).0 | inr p ↦ f.saved w p ]

-- a core whose numbers, stages and blocks stay, but for the one to open
