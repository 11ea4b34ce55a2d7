-- Two disks with the same master and the same journal blocks are read alike, whatever they hold: the same transactions, the same valid set,
-- the same images. A home store leaves both, so recovery goes on as it began.
use Rattle.model.proofs.Base.{ℕ, zero, suc, ◌+◌, ◌-◌, ◌*◌, ◌%◌, ◌≤◌, ◌<◌, arith, ◌≡◌, refl, sym, ap, fun_ext, ◌∙◌, cond, List, [], ◌∷◌, Memᴰ, mem_head, mem_tail, length, below, select, any, eqb, Bytes}
use Rattle.model.specs.Bytes.{block_at, store}
use Rattle.model.specs.Shape.{home_block, journal_block}
use Rattle.model.specs.Layout.{block_count, tail_in, shape_in, layout_in}
use Rattle.model.specs.Journal.{journal_at, record_at, records_from, journal, journals, tags_of, blocks_of, names_of, took, image_of}
use Rattle.model.specs.Valid.{Order, required_of, names_met, valid_set, blocks_held, later, newest}
use Rattle.model.specs.Recovery.{shape_on, tail_on, layout_on, committed_by, valid_on_by, place_of, image_found}
use Rattle.model.specs.declared.Shape.{Shape}
use Rattle.model.specs.declared.Tail.{Tail}
use Rattle.model.specs.declared.CommitLayout.{CommitLayout}
use Rattle.model.specs.declared.Committed.{Committed}
use Rattle.std.specs.Prelude.{Option, Some, None}
use Rattle.model.proofs.Limits.{InRange}
use Rattle.model.proofs.Lists.{flat_map_same, flat_map_below}
use Rattle.model.proofs.Store.{block_other}
use Rattle.model.proofs.Journal.{home_apart, records_miss, records_hit, found_cases}
use Rattle.model.proofs.Valid.{names_met_monotone}
use Rattle.model.proofs.SameShrink.{shrink_same}
use Rattle.model.proofs.OneStore.{committed_cores, valid_cores}

-- the journals of two disks stand alike, block by block; behind the last one they may differ
pub record SameJournals (s : Shape) (d e : Bytes) : Type 0 where
  pub block : (c p : ℕ) → c < s.cores → journal_at s d c p ≡ journal_at s e c p

-- each of a core with a journal
abbrev pub InJournals : Shape → List Committed → Type 0
InJournals s es = (x : Committed) → Memᴰ x es → x.core < s.cores

module _ {s : Shape} {d e : Bytes} (same : SameJournals s d e) where
  -- ---- the records
  module _ (y : CommitLayout) (c : ℕ) (h : c < s.cores) where
    record_alike : (k p left : ℕ) → record_at y s d c k p left ≡ record_at y s e c k p left
    unfolding record_at
    record_alike k p left = rw (same.block c p h, same.block c (p + (block_count (journal_at s e c p) + 1)) h)

    records_alike : (most k p left : ℕ) → records_from most y s d c k p left ≡ records_from most y s e c k p left
    unfolding records_from
    records_alike zero k p left = refl
    records_alike (suc most) k p left =
        found_cases (record_at y s e c k p left)
        (λ m. records_miss y s d c k p left (suc most) (record_alike k p left ∙ m) ∙ sym (records_miss y s e c k p left (suc most) m))
        (λ x m.
        records_hit y s d c k p left most x (record_alike k p left ∙ m)
        ∙ ap (λ (l : List Committed). x ∷ l) (records_alike most (k + 1) ((p + (x.count + 2)) % s.journal) (left - (x.count + 2)))
        ∙ sym (records_hit y s e c k p left most x m))

    pub journal_alike : (t : Tail) (most : ℕ) → journal y s d c t most ≡ journal y s e c t most
    unfolding journal
    journal_alike t most = records_alike most t.number t.position s.journal

  pub journals_alike : (y : CommitLayout) (tail_at : ℕ → Tail) (most : ℕ → ℕ) → journals y s d tail_at most ≡ journals y s e tail_at most
  unfolding journals
  journals_alike y tail_at most = flat_map_below _ _ s.cores (λ c h. journal_alike y c h (tail_at c) (most c))

  -- ---- what a record says
  module _ (x : Committed) (h : x.core < s.cores) where
    tags_alike : tags_of s d x ≡ tags_of s e x
    unfolding tags_of
    tags_alike = rw (same.block x.core x.position h)

    pub blocks_alike : blocks_of s d x ≡ blocks_of s e x
    unfolding blocks_of
    blocks_alike = rw tags_alike

    pub image_alike : (i : ℕ) → image_of s d x i ≡ image_of s e x i
    unfolding image_of
    image_alike i = rw (tags_alike, same.block x.core (x.position + (i + 1)) h)

    took_alike : (b : ℕ) → took s d b x ≡ took s e b x
    unfolding took
    took_alike b = rw blocks_alike

    met_alike : (o : Order) (y : CommitLayout) (tail_at : ℕ → Tail) (es : List Committed)
        → names_met o y s d tail_at es x ≡ names_met o y s e tail_at es x
    unfolding names_met required_of names_of
    met_alike o y tail_at es = rw (same.block x.core (x.position + (x.count + 1)) h)

  -- ---- the valid set, and the newest of it
  pub valid_alike : (o : Order) (y : CommitLayout) (tail_at : ℕ → Tail) (es : List Committed) → InJournals s es
      → valid_set o y s d tail_at es ≡ valid_set o y s e tail_at es
  unfolding valid_set
  valid_alike o y tail_at es low =
      shrink_same (names_met o y s d tail_at) (names_met o y s e tail_at)
      (names_met_monotone o y s d tail_at) (names_met_monotone o y s e tail_at) es
      (λ ss w stay x m. sym (met_alike x (low x (w x m)) o y tail_at ss) ∙ stay x m)
      (λ ss w stay x m. met_alike x (low x (w x m)) o y tail_at ss ∙ stay x m)

  pub held_alike : (es : List Committed) → InJournals s es → blocks_held s d es ≡ blocks_held s e es
  unfolding blocks_held
  held_alike es low =
      ap (λ (bs : List ℕ). select (λ (b : ℕ). any (eqb b) bs) (below s.blocks))
      (flat_map_same (blocks_of s d) (blocks_of s e) es (λ x m. blocks_alike x (low x m)))

  pub newest_alike : (b : ℕ) (best : Option Committed) (es : List Committed) → InJournals s es → newest s d b best es ≡ newest s e b best es
  unfolding newest
  newest_alike b best [] low = refl
  newest_alike b best (x ∷ es) low =
      rw (took_alike x (low x (mem_head refl)) b)
      (newest_alike b (cond (took s e b x) (Some (later best x)) best) es (λ y m. low y (mem_tail m)))

-- ---- whole disks
pub record ReadAlike (d e : Bytes) : Type 0 where
  pub master : block_at d 0 ≡ block_at e 0
  pub journals : SameJournals (shape_on d) d e

module _ {d e : Bytes} (a : ReadAlike d e) where
  pub shapes_alike : shape_on d ≡ shape_on e
  unfolding shape_on
  shapes_alike = ap shape_in a.master

  pub layouts_alike : layout_on d ≡ layout_on e
  unfolding layout_on
  layouts_alike = ap layout_in a.master

  pub tails_alike : tail_on d ≡ tail_on e
  unfolding tail_on
  tails_alike = fun_ext (λ c. ap (λ (m : Bytes). tail_in m c) a.master)

  committed_alike : (y : CommitLayout) → committed_by y d ≡ committed_by y e
  unfolding committed_by
  committed_alike y =
      journals_alike a.journals y (tail_on d) (λ (c : ℕ). (shape_on d).journal)
      ∙ ap (λ (t : ℕ → Tail). journals y (shape_on d) e t (λ (c : ℕ). (shape_on d).journal)) tails_alike
      ∙ ap (λ (s : Shape). journals y s e (tail_on e) (λ (c : ℕ). s.journal)) shapes_alike

  pub valid_on_alike : (o : Order) (y : CommitLayout) → valid_on_by o y d ≡ valid_on_by o y e
  unfolding valid_on_by
  valid_on_alike o y =
      valid_alike a.journals o y (tail_on d) (committed_by y d) (committed_cores y d)
      ∙ ap (λ (es : List Committed). valid_set o y (shape_on d) e (tail_on d) es) (committed_alike y)
      ∙ ap (λ (t : ℕ → Tail). valid_set o y (shape_on d) e t (committed_by y e)) tails_alike
      ∙ ap (λ (s : Shape). valid_set o y s e (tail_on e) (committed_by y e)) shapes_alike

  pub held_on_alike : (o : Order) (y : CommitLayout) → blocks_held (shape_on d) d (valid_on_by o y d) ≡ blocks_held (shape_on e) e (valid_on_by o y e)
  held_on_alike o y =
      held_alike a.journals (valid_on_by o y d) (valid_cores o y d)
      ∙ ap (blocks_held (shape_on d) e) (valid_on_alike o y)
      ∙ ap (λ (s : Shape). blocks_held s e (valid_on_by o y e)) shapes_alike

  pub newest_on_alike : (o : Order) (y : CommitLayout) (b : ℕ) → newest (shape_on d) d b None (valid_on_by o y d) ≡ newest (shape_on e) e b None (valid_on_by o y e)
  newest_on_alike o y b =
      newest_alike a.journals b None (valid_on_by o y d) (valid_cores o y d)
      ∙ ap (newest (shape_on d) e b None) (valid_on_alike o y)
      ∙ ap (λ (s : Shape). newest s e b None (valid_on_by o y e)) shapes_alike

  pub found_alike : (b : ℕ) (x : Committed) → x.core < (shape_on d).cores → image_found d b (Some x) ≡ image_found e b (Some x)
  unfolding image_found
  found_alike b x h =
      image_alike a.journals x h (place_of b (blocks_of (shape_on d) d x))
      ∙ ap (λ (bs : List ℕ). image_of (shape_on d) e x (place_of b bs)) (blocks_alike a.journals x h)
      ∙ ap (λ (s : Shape). image_of s e x (place_of b (blocks_of s e x))) shapes_alike

-- ---- a home store
module _ (d : Bytes) (n : length d ≡ 32896) (l : InRange (shape_on d)) (b : ℕ) (h : b < (shape_on d).blocks) (x : Bytes) (size : length x ≡ 128) where
  pub home_alike : ReadAlike d (store d (home_block b) x)
  unfolding journal_at
  home_alike =
      let fits : 128 * home_block b + 128 ≤ length d = omega (arith, l.few_blocks) in
      record {
        master = sym (block_other d (home_block b) x fits size 0 (λ q. omega arith));
        journals = record { block = λ c p j. sym (block_other d (home_block b) x fits size (journal_block (shape_on d) c p) (λ q. home_apart (shape_on d) c p (home_block b) (omega arith) (sym q))) };
      }
