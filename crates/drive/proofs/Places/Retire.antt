-- A master store that is not lost: the disk behind the barrier gets the same master, and the stores since the barrier lie where they lay.
use Prim.Native.Nat.{ℕ, suc, ◌+◌, ◌-◌, ◌*◌, ◌≤◌, ◌<◌}
use native.Mathlib.Omega.{arith}
use native.Mathlib.Decide.{ℕ_discrete}
use mathlib.Core.Path.{◌≡◌, refl, sym, ap, ◌∙◌, subst}
use mathlib.Core.Logic.{◌⊎◌, ◌≢◌}
use mathlib.Core.Bool.{false, So}
use mathlib.Core.List.{List}
use lib.ListN.{length, get_or}
use Rattle.model.specs.Bytes.{Bytes, store}
use Rattle.model.specs.Shape.{journal_block}
use Rattle.model.specs.Layout.{master_block}
use Rattle.model.specs.declared.Name.{Name}
use Rattle.model.specs.declared.Tail.{Tail}
use Rattle.model.specs.declared.CommitLayout.TheVariants.{Numbers}
use Rattle.model.proofs.Store.{block_stored, block_other}
use Rattle.model.proofs.Journal.{home_apart, journal_wrap}
use Rattle.crash.specs.Book.{committed, retired, Entry, raise, staged, stage_count, kept}
use Rattle.crash.specs.Ledger.{Ledger, record_blocks}
use Rattle.crash.proofs.Books.BookSteps.{Restages, restages_records}
use Rattle.crash.proofs.Books.Tests.{clash}
use Rattle.crash.proofs.Books.BookEntries.{oldest_name, uncommitted_name, change_other, change_by, raise_at, raise_other}
use Rattle.crash.proofs.Books.Largest.{stage_of, member_of}
use Rattle.crash.proofs.Disk.Relation.{WellFormed, contents, DiskStands}
use Rattle.crash.proofs.Disk.LedgerCheckpoint.{advanced, one_changed}
use Rattle.crash.proofs.Disk.JournalPast.{past_tail, not_closing, records_past}
use Rattle.drive.specs.Since.{StoreKind, commit_since, home_since, part_since}
use Rattle.drive.specs.LostCommits.{book_without, ledger_without}
use Rattle.drive.proofs.Lost.Mixed.{last_name}
use Rattle.drive.proofs.Behind.Home.{some_now}
use Rattle.drive.proofs.Behind.Retire.{cached_retire, past_behind, past_now, other_behind, other_now, place₃, is_block}
use Rattle.drive.proofs.Places.BetweenDisks.{Place, in_journal, at_home, used_in, PartAt, BetweenDisks}

-- no store since the barrier was of the master
pub not_master : {l : Ledger} {tail_at : ℕ → Tail} {ks : List StoreKind} {p : ℕ} → Place l tail_at ks p → p ≢ 0
not_master {l} (in_journal c q h e lo hi o) z = home_apart l.shape c _ 0 (omega arith) (sym z ∙ e)
not_master (at_home t m i h g a d e) z = (let r = sym e ∙ z in omega arith)

module _ {l : Ledger} (f : WellFormed l) {tail_at : ℕ → Tail} {ks : List StoreKind} {behind now : Bytes} (z : DiskStands Numbers l now tail_at) {places : List ℕ} {old : Bytes}
    (s : BetweenDisks l tail_at ks behind now places old) (c : ℕ) (in_range_lem : c < l.shape.cores) (m : ℕ) (stage : stage_of l.book (oldest_name c l.book) ≡ committed m)
    (safe_t : So (member_of (kept (book_without (commit_since ks) l.book)) (oldest_name c l.book))) (none_home : home_since ks (oldest_name c l.book) ≡ false)
    (fine₂ : WellFormed (advanced l (oldest_name c l.book) retired (raise c l.book.oldest))) (tail₂ : ℕ → Tail)
    (own_tail : tail₂ c ≡ past_tail c l (tail_at c))
    (other_tail : (a : ℕ) → a ≢ c → tail₂ a ≡ tail_at a) where
  abbrev t : Name
  t = oldest_name c l.book

  abbrev n : ℕ
  n = length (l.book.entry t).blocks + 2

  abbrev l₃ : Ledger
  l₃ = advanced l t retired (raise c l.book.oldest)

  abbrev block : Bytes
  block = master_block Numbers l.shape tail₂

  own_place : (q : ℕ) → n ≤ q → journal_block l.shape c ((tail_at c).position + q) ≡ journal_block l.shape c ((tail₂ c).position + (q - n))
  own_place q h =
      let e : (tail_at c).position + n + (q - n) ≡ (tail_at c).position + q = omega arith in
      ap (journal_block l.shape c) (sym e) ∙ sym (journal_wrap l.shape c ((tail_at c).position + n) (q - n))
      ∙ ap (λ (x : Tail). journal_block l.shape c (x.position + (q - n))) (sym own_tail)

  blocks_same : (v : Name) → (l₃.book.entry v).blocks ≡ (l.book.entry v).blocks
  blocks_same = change_by t (staged retired) l.book.entry (λ (e : Entry). e.blocks) refl

  own_kept : (k a q : ℕ) → a ≡ c → k ≡ journal_block l.shape a ((tail_at a).position + q) → length (contents (ledger_without (commit_since ks) l) a) ≤ q → q < length (contents l a)
      → So (part_since ks a) ⊎ So (commit_since ks (last_name l a)) → Place l₃ tail₂ ks k
  own_kept k a q i e lo hi o =
      let behind_long = past_behind f z s.cached c in_range_lem m stage safe_t none_home fine₂ in
      let now_long = past_now f z s.cached c in_range_lem m stage safe_t none_home fine₂ in
      let lo₂ : length (contents (ledger_without (commit_since ks) l) c) ≤ q = subst (λ (x : ℕ). length (contents (ledger_without (commit_since ks) l) x) ≤ q) i lo in
      let hi₂ : q < length (contents l c) = subst (λ (x : ℕ). q < length (contents l x)) i hi in
      in_journal c (q - n) in_range_lem
      (subst (λ (x : ℕ). k ≡ journal_block l.shape x ((tail_at x).position + q)) i e ∙ own_place q (omega arith)) (omega arith) (omega arith)
      (subst (λ (x : ℕ). So (part_since ks x) ⊎ So (commit_since ks (last_name l x))) i o)

  kept_places : (k : ℕ) → Place l tail_at ks k → Place l₃ tail₂ ks k
  kept_places k (in_journal a q h e lo hi o) =
      elim (ℕ_discrete a c) [
        | yes i ↦ own_kept k a q i e lo hi o
        | no ne ↦ in_journal a q h (e ∙ ap (λ (x : Tail). journal_block l.shape a (x.position + q)) (sym (other_tail a ne)))
            (rw (other_behind f z s.cached c in_range_lem m stage safe_t none_home fine₂ a ne) lo) (rw (other_now f z s.cached c in_range_lem m stage safe_t none_home fine₂ a ne) hi) o
      ]
  kept_places k (at_home v j i h g a d e) =
      let ne : v ≢ t = λ q. clash (subst (λ (x : Name). So (home_since ks x)) q h) none_home in
      at_home v j i h (ap (λ (x : Entry). x.stage) (change_other t (staged retired) l.book.entry v ne) ∙ g) a (rw (blocks_same v) d) (rw (blocks_same v) e)

  changed : Restages l.book l₃.book t retired
  changed = one_changed l t retired (raise c l.book.oldest)

  some : l.book.oldest c < l.book.uncommitted c
  some = some_now f c in_range_lem m stage

  stage_same : (a : ℕ) → stage_count (stage_of l₃.book (uncommitted_name a l₃.book)) ≡ stage_count (stage_of l.book (uncommitted_name a l.book))
  stage_same a = ap (λ (y : Entry). stage_count y.stage) (changed.other (uncommitted_name a l.book) (not_closing f c in_range_lem some a))

  -- the records past the first
  own_used : used_in l c ≡ n + used_in l₃ c
  own_used =
      let o = l.book.oldest c in
      let k = l.book.uncommitted c in
      let e : used_in l₃ c ≡ record_blocks l.book c (suc o) (k - suc o) =
      ap (λ (x : ℕ). record_blocks l₃.book c x (k - x)) (raise_at c l.book.oldest) ∙ restages_records changed c (suc o) (k - suc o) in
      records_past f c in_range_lem some k some ∙ ap (λ (x : ℕ). n + x) (sym e)

  other_used : (a : ℕ) → a ≢ c → used_in l₃ a ≡ used_in l a
  other_used a ne =
      ap (λ (x : ℕ). record_blocks l₃.book a x (l.book.uncommitted a - x)) (raise_other c l.book.oldest a ne)
      ∙ restages_records changed a (l.book.oldest a) (l.book.uncommitted a - l.book.oldest a)

  part_past : (a : ℕ) → PartAt l tail_at places a → PartAt l₃ tail₂ places a
  part_past a x =
      record { index = x.index; within = x.within; step = x.step; stored = rw (stage_same a) x.stored; place = x.place ∙ where_it_is }
    where
      where_it_is : journal_block l.shape a ((tail_at a).position + (used_in l a + x.step)) ≡ journal_block l.shape a ((tail₂ a).position + (used_in l₃ a + x.step))
      where_it_is =
          elim (ℕ_discrete a c) [
            | yes i ↦ subst (λ (y : ℕ). journal_block l.shape y ((tail_at y).position + (used_in l y + x.step)) ≡ journal_block l.shape y ((tail₂ y).position + (used_in l₃ y + x.step))) (sym i)
                (own_place (used_in l c + x.step) (omega (arith, own_used))
                ∙ ap (λ (q : ℕ). journal_block l.shape c ((tail₂ c).position + q)) (omega (arith, own_used)))
            | no ne ↦ ap (λ (q : ℕ). journal_block l.shape a ((tail_at a).position + (q + x.step))) (sym (other_used a ne))
                ∙ ap (λ (y : Tail). journal_block l.shape a (y.position + (used_in l₃ a + x.step))) (sym (other_tail a ne))
          ]

  is_master_lem : length block ≡ 128
  is_master_lem = (is_block f z s.cached c in_range_lem m stage safe_t none_home fine₂ tail₂ own_tail other_tail).size

  behind_fits : 128 * 0 + 128 ≤ length behind
  behind_fits = omega (arith, s.cached.stands.size)

  now_fits : 128 * 0 + 128 ≤ length now
  now_fits = omega (arith, z.size)

  pub between_retire : BetweenDisks l₃ tail₂ ks (store behind 0 block) (store now 0 block) places old
  between_retire =
      record {
        cached = cached_retire f z s.cached c in_range_lem m stage safe_t none_home fine₂ tail₂ own_tail other_tail;
        count = s.count;
        few = s.few;
        lies = λ j h. kept_places _ (s.lies j h);
        apart = s.apart;
        size = s.size;
        bytes = s.bytes;
        images = λ j h. s.images j h ∙ sym (block_other behind 0 block behind_fits is_master_lem (get_or places j 0) (not_master (s.lies j h)));
        same =
            λ k h.
            elim (ℕ_discrete k 0) [
              | yes e ↦ rw e (block_stored behind 0 block behind_fits is_master_lem ∙ sym (block_stored now 0 block now_fits is_master_lem))
              | no ne ↦ block_other behind 0 block behind_fits is_master_lem k ne ∙ s.same k h ∙ sym (block_other now 0 block now_fits is_master_lem k ne)
            ];
        commits =
            λ a h p.
            let x = s.commits a h p in
            record {
              index = x.index;
              within = x.within;
              place = x.place ∙ place₃ f z s.cached c in_range_lem m stage safe_t none_home fine₂ tail₂ own_tail other_tail a;
              says = x.says;
            };
        parts = λ a h p. part_past a (s.parts a h p);
        homes =
            λ v p.
            let x = s.homes v p in
            record { index = x.index; within = x.within; step = x.step; took = rw (blocks_same v) x.took; place = rw (blocks_same v) x.place };
      }
