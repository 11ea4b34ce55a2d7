-- WRITE keeps card and ledger in agreement: by the rule met, the writer's transaction and a running holder's change as
-- their entries do, and so does the block's holder. The image written is the current one: a held block has it in memory,
-- a free one is loaded from home. Closed transactions and the disk stay.
use Rattle.model.proofs.Base.{ℕ, ◌+◌, ◌-◌, ◌*◌, ◌≤◌, ◌<◌, arith, ℕ_discrete, ◌≡◌, refl, sym, ap, subst, ◌∙◌, ◌≢◌, ◌⊎◌, Bool, true}
use Rattle.model.proofs.Base.{false, cond, none, some, length, length-set, get_or-set_same, get_or-set_other, Bytes}
use Rattle.model.specs.Bytes.{replaced, block_at, store}
use Rattle.model.specs.Shape.{home_block}
use Rattle.model.specs.Card.{new_name, no_holder, new_holder, with_name, with_running, tail_of, core_of, holder_of, with_core, with_holder, is_held, holder_name}
use Rattle.model.specs.Command.{World}
use Rattle.model.specs.Write.{writer_name, rule_for, takes_block, is_named_back, loads_image, writer_after, written_card, written_memory, written}
use Rattle.model.specs.Commit.{copy_block}
use Rattle.model.proofs.Lists.{cases}
use Rattle.model.proofs.Store.{length_replaced, length_store, length_block_at, block_stored, block_other, ext_blocks}
use Rattle.crash.specs.Book.{absent, running, is_running, stage_count, Book, book_holder, running_holder, holder_after, write_book}
use Rattle.crash.specs.Ledger.{Ledger, with_book, image_now, record_blocks}
use Rattle.crash.specs.Claims.{IsBytes}
use Rattle.crash.proofs.Books.Tests.{clash, impossible}
use Rattle.crash.proofs.Books.BookEntries.{other_core, meets_met, meets_running, met_holder, next_name}
use Rattle.crash.proofs.Books.BookSteps.{meeting, write_numbers, write_running, write_stage, write_blocks_other, write_other, write_holder, write_holder_other, write_image, write_image_other}
use Rattle.crash.proofs.Disk.BlockBytes.{block_written, block_unwritten, bytes_replaced, bytes_store, bytes_block_at}
use Rattle.crash.proofs.Disk.Relation.{WellFormed, Limits, JournalStands, Matches, CoreUp, holder_as, CardUp}
use Rattle.crash.proofs.Disk.LedgerStages.{running_present, present_open, running_next}
use Rattle.crash.proofs.Commands.CardFrames.{SameClosed, core_set, core_other, none_stored, journal_stays, core_stays}
use Rattle.crash.proofs.Commands.CardRules.{writer_name_lem, Met, met_none, met_own, met_running, met_closed, rule_met, writer_after_lem, holder_after_lem}
use Rattle.model.specs.declared.Name.{Name}
use Rattle.model.specs.declared.Transaction.{Transaction}
use Rattle.model.specs.declared.Core.{Core}
use Rattle.model.specs.Card.{Holder}
use Rattle.model.specs.declared.Card.{Card}

-- ---- the card afterwards
-- what WRITE leaves of a card
record WriteFrame (x y : Card) : Type 0 where
  phase : y.phase ≡ x.phase
  shape : y.shape ≡ x.shape
  closes : y.closes ≡ x.closes
  tails : y.tails ≡ x.tails
  cores : length y.cores ≡ length x.cores
  holders : length y.holders ≡ length x.holders

module _ (x : Card) where
  frame_cond : (t : Bool) {y z : Card} → WriteFrame x y → WriteFrame x z → WriteFrame x (cond t y z)
  frame_cond true p q = p
  frame_cond false p q = q

  frame_same : WriteFrame x x
  frame_same = record { phase = refl; shape = refl; closes = refl; tails = refl; cores = refl; holders = refl }

  kept_core : (y : Card) (c : ℕ) (k : Core) → WriteFrame x y → WriteFrame x (with_core y c k)
  kept_core y c k h = record { phase = h.phase; shape = h.shape; closes = h.closes; tails = h.tails; cores = length-set y.cores c k ∙ h.cores; holders = h.holders }

  kept_holder : (y : Card) (b : ℕ) (n : Holder) → WriteFrame x y → WriteFrame x (with_holder y b n)
  kept_holder y b n h = record { phase = h.phase; shape = h.shape; closes = h.closes; tails = h.tails; cores = h.cores; holders = length-set y.holders b _ ∙ h.holders }

  module _ (c b : ℕ) where
    -- the core of the block's holder, and the card after a running holder has named the writer
    abbrev holder_core : ℕ
    holder_core = (holder_name (holder_of x b)).core

    abbrev named_core : ℕ → Core
    named_core a = with_running (core_of x a) (with_name (core_of x a).running (writer_name x c))

    abbrev named_back : Card
    named_back = cond (is_named_back (rule_for x c b)) (with_core x holder_core (named_core holder_core)) x

    abbrev writer_core : Core
    writer_core = with_running (core_of named_back c) (writer_after x c b)

    named_kept : WriteFrame x named_back
    named_kept = frame_cond (is_named_back (rule_for x c b)) (kept_core x holder_core _ frame_same) frame_same

    written_kept : WriteFrame x (written_card x c b)
    unfolding written_card
    written_kept =
        let k = kept_core named_back c writer_core named_kept in
        frame_cond (takes_block (rule_for x c b)) (kept_holder (with_core named_back c writer_core) b (new_holder (writer_name x c)) k) k

    -- holders
    written_holders : (j : ℕ) → holder_of (written_card x c b) j ≡ holder_of (cond (takes_block (rule_for x c b)) (with_holder x b (new_holder (writer_name x c))) x) j
    unfolding written_card holder_of
    written_holders j =
        cases (takes_block (rule_for x c b))
        (λ h. cases (is_named_back (rule_for x c b)) (λ e. rw (h, e) refl) (λ e. rw (h, e) refl))
        (λ h. cases (is_named_back (rule_for x c b)) (λ e. rw (h, e) refl) (λ e. rw (h, e) refl))

    written_taken : takes_block (rule_for x c b) ≡ true → b < length x.holders → holder_of (written_card x c b) b ≡ new_holder (writer_name x c)
    written_taken h n = written_holders b ∙ rw h (unfold holder_of in get_or-set_same x.holders b _ no_holder n)

    written_other : (j : ℕ) → j ≢ b → holder_of (written_card x c b) j ≡ holder_of x j
    written_other j ne =
        written_holders j
        ∙ cases (takes_block (rule_for x c b)) (λ h. rw h (unfold holder_of in get_or-set_other x.holders b j _ no_holder ne)) (λ h. rw h refl)

    written_left : takes_block (rule_for x c b) ≡ false → holder_of (written_card x c b) b ≡ holder_of x b
    written_left h = written_holders b ∙ rw h refl

    -- cores: the writer's, a running holder's, another's
    written_cores : (a : ℕ) → core_of (written_card x c b) a ≡ core_of (with_core named_back c writer_core) a
    unfolding written_card core_of
    written_cores a = cases (takes_block (rule_for x c b)) (λ h. rw h refl) (λ h. rw h refl)

    named_other : (a : ℕ) → (is_named_back (rule_for x c b) ≡ true → a ≢ holder_core) → core_of named_back a ≡ core_of x a
    named_other a apart = cases (is_named_back (rule_for x c b)) (λ e. rw e (core_other x holder_core (named_core holder_core) a (apart e))) (λ e. rw e refl)

    written_writer : c < length x.cores → (is_named_back (rule_for x c b) ≡ true → (holder_name (holder_of x b)).core ≢ c)
        → core_of (written_card x c b) c ≡ with_running (core_of x c) (writer_after x c b)
    written_writer n apart =
        written_cores c
        ∙ core_set named_back c writer_core (omega (arith, named_kept.cores))
        ∙ ap (λ (k : Core). with_running k (writer_after x c b)) (named_other c (λ e q. apart e (sym q)))

    written_holder : (a : ℕ) → (holder_name (holder_of x b)).core ≡ a → a < length x.cores → is_named_back (rule_for x c b) ≡ true → a ≢ c
        → core_of (written_card x c b) a ≡ named_core a
    written_holder a q n e ne = written_cores a ∙ core_other named_back c writer_core a ne ∙ rw (e, q) (core_set x a (named_core a) n)

    written_core : (a : ℕ) → a ≢ c → (is_named_back (rule_for x c b) ≡ true → a ≢ (holder_name (holder_of x b)).core) → core_of (written_card x c b) a ≡ core_of x a
    written_core a ne apart = written_cores a ∙ core_other named_back c writer_core a ne ∙ named_other a apart

-- ---- WRITE
module _ {l : Ledger} {w : World} (u : CardUp l w) (c : ℕ) (in_range_lem : c < l.shape.cores) (b : ℕ) (low : b < l.shape.blocks) (o : ℕ) (inside : o ≤ 124)
    (v : Bytes) (four : length v ≡ 4) (bytes : IsBytes v)
    (opens : (n : Name) → book_holder l.book b l.book.writes ≡ some n → (l.book.entry n).stage ≢ absent)
    (home : book_holder l.book b l.book.writes ≡ none → block_at w.disk (home_block b) ≡ image_now l b)
    (reserve : record_blocks l.book c (l.book.oldest c) (l.book.next c - l.book.oldest c) + 2
    + length ((write_book c b o v l.book).entry (next_name c l.book)).blocks ≤ l.shape.journal)
    (fine : WellFormed (with_book l (write_book c b o v l.book))) where
  abbrev t : Name
  t = next_name c l.book

  abbrev k₂ : Book
  k₂ = write_book c b o v l.book

  abbrev l₂ : Ledger
  l₂ = with_book l k₂

  abbrev x : Card
  x = w.card

  abbrev current : ((l.book.entry t).stage ≡ absent) ⊎ ((l.book.entry t).stage ≡ running)
  current = (u.well_formed.ranks c in_range_lem).current

  abbrev met : Met u c in_range_lem b low opens
  met = rule_met u c in_range_lem b low opens

  -- ---- memory
  record Loaded (m : Bytes) : Type 0 where
    size : length m ≡ 16384
    all_bytes : IsBytes m
    own_image : block_at m b ≡ image_now l b
    others : (j : ℕ) → j ≢ b → block_at m j ≡ block_at w.memory j

  small : b < 64
  small = omega (arith, u.well_formed.range.few_blocks)

  -- a held block has its current image in memory
  held_loaded : is_held (holder_of x b) ≡ true → Loaded w.memory
  held_loaded h = record { size = u.memory; all_bytes = u.memory_bytes; own_image = u.images b low h; others = λ j ne. refl }

  -- a free one gets it from home
  home_loaded : book_holder l.book b l.book.writes ≡ none → Loaded (store w.memory b (block_at w.disk (home_block b)))
  home_loaded h =
      let z = length_block_at 257 w.disk u.disk.size (home_block b) (omega (arith, small)) in
      let f : 128 * b + 128 ≤ length w.memory = omega (arith, u.memory, small) in
      record {
        size = length_store w.memory b (block_at w.disk (home_block b)) f z ∙ u.memory;
        all_bytes = bytes_store w.memory b (block_at w.disk (home_block b)) u.memory_bytes (bytes_block_at w.disk (home_block b) u.disk.bytes);
        own_image = block_stored w.memory b (block_at w.disk (home_block b)) f z ∙ home h;
        others = block_other w.memory b (block_at w.disk (home_block b)) f z;
      }

  abbrev loaded : Bytes
  loaded = cond (loads_image (rule_for x c b)) (store w.memory b (block_at w.disk (home_block b))) w.memory

  is_loaded : Loaded loaded
  is_loaded =
      elim met [
        | met_none h _ r ↦ rw r (home_loaded h)
        | met_own _ h _ r ↦ rw r (held_loaded h)
        | met_running n h _ _ _ _ r ↦ rw r (held_loaded h.held)
        | met_closed n h _ _ r ↦ rw r (held_loaded h.held)
      ]

  -- ---- the ledger's entries
  t_limits : Limits l.shape t (k₂.entry t)
  t_limits = fine.limits t (running_present _ (write_running l.book c current b o v))

  entry_stays : (a : ℕ) → a < l.shape.cores → (i : ℕ) → i < l.book.next a → k₂.entry (new_name a i) ≡ l.book.entry (new_name a i)
  entry_stays a h i g =
      write_other l.book c current b o v (new_name a i)
      (λ e. let p : i ≡ l.book.next c = ap (λ (n : Name). n.number) e in let q : l.book.next a ≡ l.book.next c = ap (λ (n : Name). l.book.next n.core) e in omega arith)
      (λ e.
      let q = (meets_met l.book t (book_holder l.book b l.book.writes) (new_name a i) (ap met_holder e)).0 in
      let p = meets_running l.book t (book_holder l.book b l.book.writes) (new_name a i) e in
      let r = present_open (l.book.entry (new_name a i)).stage (opens (new_name a i) q) p in
      omega (arith, running_next (u.well_formed.ranks a h) i (ap is_running r)))

  same : (a : ℕ) → a < l.shape.cores → SameClosed l l₂ a
  same a h =
      let n = write_numbers l.book c current b o v in
      record {
        shape = refl;
        oldest = ap (λ (f : ℕ → ℕ). f a) n.0;
        uncommitted = ap (λ (f : ℕ → ℕ). f a) n.1;
        next = ap (λ (f : ℕ → ℕ). f a) n.2;
        entry = entry_stays a h;
        stamp = λ i g. refl;
        images = λ i g. refl;
      }

  other_stage : (a : ℕ) → a ≢ c → (k₂.entry (next_name a l.book)).stage ≡ (l.book.entry (next_name a l.book)).stage
  other_stage a ne = write_stage l.book c current b o v (next_name a l.book) (other_core (l.book.next a) (l.book.next c) ne)

  eight : c < length x.cores
  eight = omega (arith, u.eight_cores, u.well_formed.range.few_cores)

  -- ---- memory afterwards
  abbrev m₂ : Bytes
  m₂ = written_memory w c b o v

  memory_own : block_at m₂ b ≡ replaced o 4 (image_now l b) v
  unfolding written_memory
  memory_own = block_written 128 loaded is_loaded.size b o v (omega (arith, small)) inside four ∙ ap (λ (d : Bytes). replaced o 4 d v) is_loaded.own_image

  memory_other : (j : ℕ) → j ≢ b → block_at m₂ j ≡ block_at w.memory j
  unfolding written_memory
  memory_other j ne = block_unwritten 128 loaded is_loaded.size b o v (omega (arith, small)) inside four j ne ∙ is_loaded.others j ne

  memory_size : length m₂ ≡ 16384
  unfolding written_memory
  memory_size = length_replaced (128 * b + o) 4 loaded v (omega (arith, is_loaded.size, small)) four ∙ is_loaded.size

  -- so it is memory with the block's image written into
  pub memory_written : m₂ ≡ store w.memory b (replaced o 4 (image_now l b) v)
  memory_written =
      let x = replaced o 4 (image_now l b) v in
      let z : length x ≡ 128 = subst (λ (y : Bytes). length y ≡ 128) memory_own (length_block_at 128 m₂ memory_size b (omega (arith, small))) in
      let f : 128 * b + 128 ≤ length w.memory = omega (arith, u.memory, small) in
      ext_blocks 128 m₂ (store w.memory b x) memory_size (length_store w.memory b x f z ∙ u.memory)
      (λ k h.
      elim (ℕ_discrete k b) [
        | yes e ↦ subst (λ (j : ℕ). block_at m₂ j ≡ block_at (store w.memory b x) j) (sym e) (memory_own ∙ sym (block_stored w.memory b x f z))
        | no ne ↦ memory_other k ne ∙ sym (block_other w.memory b x f z k ne)
      ])

  memory_bytes : IsBytes m₂
  unfolding written_memory
  memory_bytes = bytes_replaced (128 * b + o) 4 loaded v is_loaded.all_bytes bytes

  copies_stay : (a i : ℕ) → block_at m₂ (copy_block a i) ≡ block_at w.memory (copy_block a i)
  unfolding copy_block
  copies_stay a i = memory_other (64 + 8 * a + i) (omega (arith, small))

  -- ---- cores
  stays : (a : ℕ) (h : a < l.shape.cores) (r : Transaction) → core_of (written_card x c b) a ≡ with_running (core_of x a) r
      → (is_running (k₂.entry (next_name a l.book)).stage ≡ true → Matches r (k₂.entry (next_name a l.book)))
      → (is_running (k₂.entry (next_name a l.book)).stage ≡ false → r.live ≡ false)
      → CoreUp l₂ m₂ a (core_of (written_card x c b) a)
  stays a h r e p q = rw e (core_stays l u.well_formed a h l₂ (same a h) w.memory m₂ (core_of x a) r p q (λ i _. copies_stay a i) (u.cores a h))

  runs_now : is_running (k₂.entry t).stage ≡ true
  runs_now = ap is_running (write_running l.book c current b o v)

  writer_core_lem : (is_named_back (rule_for x c b) ≡ true → (holder_name (holder_of x b)).core ≢ c) → CoreUp l₂ m₂ c (core_of (written_card x c b) c)
  writer_core_lem apart =
      stays c in_range_lem (writer_after x c b) (written_writer x c b eight apart) (λ _. writer_after_lem u c in_range_lem b low opens o v t_limits.few) (clash runs_now)

  -- a core that neither writes nor holds
  other_core_up : (a : ℕ) (h : a < l.shape.cores) → a ≢ c → (is_named_back (rule_for x c b) ≡ true → a ≢ (holder_name (holder_of x b)).core)
      → meeting c b l.book ≢ running_holder (next_name a l.book) → CoreUp l₂ m₂ a (core_of (written_card x c b) a)
  other_core_up a h ne apart nr =
      let e = write_other l.book c current b o v (next_name a l.book) (other_core (l.book.next a) (l.book.next c) ne) nr in
      stays a h (core_of x a).running (written_core x c b a ne apart) (rw e (u.cores a h).runs) (rw e (u.cores a h).idle)

  write_core : (a : ℕ) → a < l.shape.cores → CoreUp l₂ m₂ a (core_of (written_card x c b) a)
  write_core a h =
      elim (ℕ_discrete a c) [
        | yes e ↦ subst (λ (i : ℕ). CoreUp l₂ m₂ i (core_of (written_card x c b) i)) (sym e)
            (elim met [
              | met_none _ _ r ↦ writer_core_lem (λ q. clash q (rw r refl))
              | met_own _ _ _ r ↦ writer_core_lem (λ q. clash q (rw r refl))
              | met_running n g _ _ apart _ r ↦ writer_core_lem (λ q. rw g.name apart)
              | met_closed n g _ _ r ↦ writer_core_lem (λ q. clash q (rw r refl))
            ])
        | no ne ↦ elim met [
          | met_none _ m r ↦ other_core_up a h ne (λ q. clash q (rw r refl))
              (λ q. impossible cc)
          | met_own _ _ m r ↦ other_core_up a h ne (λ q. clash q (rw r refl))
              (λ q. impossible cc)
          | met_closed n g _ m r ↦ other_core_up a h ne (λ q. clash q (rw r refl))
              (λ q. impossible cc)
          | met_running n g runs is apart m r ↦ elim (ℕ_discrete a n.core) [
            | yes e ↦ (let back : is_named_back (rule_for x c b) ≡ true = rw r refl in
                let size : n.core < length x.cores = omega (arith, u.eight_cores, u.well_formed.range.few_cores, g.core) in
                let run : is_running (k₂.entry (next_name n.core l.book)).stage ≡ true =
                ap is_running (other_stage n.core apart) ∙ (let z : is_running (l.book.entry (next_name n.core l.book)).stage ≡ true = rw (← is) (ap is_running runs) in z) in
                subst (λ (i : ℕ). CoreUp l₂ m₂ i (core_of (written_card x c b) i)) (sym e)
                (stays n.core g.core (with_name (core_of x n.core).running (writer_name x c)) (written_holder x c b n.core (ap (λ (n : Name). n.core) g.name) size back apart)
                (λ _. rw (← is) (holder_after_lem u c in_range_lem b low opens o v n g runs is m)) (clash run)))
            | no away ↦ other_core_up a h ne (λ _ q. away (q ∙ ap (λ (n : Name). n.core) g.name))
                (λ q. away (let s : n ≡ next_name a l.book = cc in sym (ap (λ (n : Name). n.core) s)))
          ]
        ]
      ]

  -- ---- holders
  same_after : (j : ℕ) → j < l.shape.blocks → holder_of (written_card x c b) j ≡ holder_as (book_holder k₂ j k₂.writes)
  unfolding holder_after
  same_after j h =
      let room : b < length x.holders = omega (arith, u.holder_room, small) in
      let after = write_holder l.book c current b o v in
      elim (ℕ_discrete j b) [
        | no ne ↦ written_other x c b j ne ∙ u.holders j h ∙ ap holder_as (sym (write_holder_other l.book c current b o v j ne))
        | yes e ↦ rw e (elim met [
          | met_none _ m r ↦ (let takes : takes_block (rule_for x c b) ≡ true = rw r refl in
              written_taken x c b takes room ∙ rw (after, m, writer_name_lem u c in_range_lem) refl)
          | met_own held _ m r ↦ (let leaves : takes_block (rule_for x c b) ≡ false = rw r refl in
              written_left x c b leaves ∙ u.holders b low ∙ rw (after, m, held) refl)
          | met_running n g _ _ _ m r ↦ (let leaves : takes_block (rule_for x c b) ≡ false = rw r refl in
              written_left x c b leaves ∙ u.holders b low ∙ rw (after, m, g.holder) refl)
          | met_closed n g _ m r ↦ (let takes : takes_block (rule_for x c b) ≡ true = rw r refl in
              written_taken x c b takes room ∙ rw (after, m, writer_name_lem u c in_range_lem) refl)
        ])
      ]

  -- ---- journals
  journals_stand : (a : ℕ) → a < l.shape.cores → JournalStands l₂ w.disk a (tail_of x a)
  journals_stand a h =
      elim (ℕ_discrete a c) [
        | yes e ↦ subst (λ (i : ℕ). JournalStands l₂ w.disk i (tail_of x i)) (sym e)
            (journal_stays l u.well_formed c in_range_lem l₂ (same c in_range_lem) w.disk w.disk (tail_of x c)
            (ap stage_count (write_running l.book c current b o v)) (λ _. omega (arith, reserve)) (λ q. refl) (u.disk.journals c in_range_lem))
        | no ne ↦ (let s = other_stage a ne in
            let n = ap length (write_blocks_other l.book c current b o v (next_name a l.book) (other_core (l.book.next a) (l.book.next c) ne)) in
            journal_stays l u.well_formed a h l₂ (same a h) w.disk w.disk (tail_of x a)
            (ap stage_count s ∙ none_stored l u.well_formed a h) (rw (s, n) (u.disk.journals a h).reserved) (λ q. refl) (u.disk.journals a h))
      ]

  -- the images of held blocks are the current ones
  images_now : (j : ℕ) → j < l.shape.blocks → is_held (holder_of (written_card x c b) j) ≡ true → block_at m₂ j ≡ image_now l₂ j
  images_now j h held =
      elim (ℕ_discrete j b) [
        | yes e ↦ rw e (memory_own ∙ sym (write_image l c b o v current))
        | no ne ↦ memory_other j ne ∙ u.images j h (ap is_held (sym (written_other x c b j ne)) ∙ held) ∙ sym (write_image_other l c b o v current j ne)
      ]

  pub write_up : CardUp l₂ (written c b o v w).world
  unfolding written tail_of
  write_up =
      let z = written_kept x c b in
      record {
        phase = z.phase ∙ u.phase;
        ledger = u.ledger;
        shape = z.shape ∙ u.shape;
        closes = z.closes ∙ u.closes;
        memory = memory_size;
        memory_bytes = memory_bytes;
        eight_tails = ap length z.tails ∙ u.eight_tails;
        eight_cores = z.cores ∙ u.eight_cores;
        holder_room = z.holders ∙ u.holder_room;
        well_formed = fine;
        disk = rw z.tails (record { size = u.disk.size; bytes = u.disk.bytes; master = u.disk.master; numbered = λ a h g. refl; journals = journals_stand });
        cores = write_core;
        holders = same_after;
        images = images_now;
      }
