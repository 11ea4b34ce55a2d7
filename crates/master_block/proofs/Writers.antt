-- Word i of the master: one of its head, one of a tail, or none, as its writer computes it word by word; and its store.
use Rattle.model.proofs.Base.{ℕ, ◌-◌, ◌/◌, ◌≤◌, ◌<◌, arith, ◌≡◌, refl, sym, ap, ◌∙◌, List, [], ◌∷◌, ◌++◌, map, length, drop, get_or}
use Rattle.model.proofs.Base.{length-map, below, Bytes}
use Rattle.model.specs.Bytes.{replaced, store}
use Rattle.model.specs.Shape.{clamped}
use Rattle.model.specs.Card.{new_tail}
use Rattle.model.specs.Layout.{mark, master_words}
use Rattle.model.specs.declared.Shape.{Shape}
use Rattle.model.specs.declared.Tail.{Tail}
use Rattle.model.proofs.Lists.{length_below, get_or_map_below}
use Rattle.model.proofs.Limits.{clamped_range}
use Rattle.model.proofs.Encoding.{length_pairs}
use Rattle.layout.specs.Words.{pair_word}
use Rattle.layout.proofs.Pairs.{word_head, word_pair, word_rest}
use Rattle.master_block.specs.Tails.{master_from}

-- ---- the words
tails : Shape → List Tail → List Tail
tails s ts = map (λ (c : ℕ). get_or ts c (new_tail 0 0)) (below s.cores)

length_tails : (s : Shape) (ts : List Tail) → length (tails s ts) ≡ s.cores
unfolding tails
length_tails s ts = length-map (below s.cores) (λ (c : ℕ). get_or ts c (new_tail 0 0)) ∙ length_below s.cores

pub length_master : (s : Shape) (ts : List Tail) → length (master_from (clamped s) ts) ≤ 32
unfolding master_from master_words tails
length_master s ts =
    let n = clamped s in
    omega (arith, length_pairs (λ (t : Tail). t.number) (λ (t : Tail). t.position) (tails n ts), length_tails n ts, (clamped_range s).few_cores)

pub few_cores : (s near : Shape) (c : ℕ) → near ≡ clamped s → c < near.cores → c < 8
few_cores s near c e h = omega (arith, (clamped_range s).few_cores, ap (λ (z : Shape). z.cores) e)

-- the shape that the code has is s
module _ (s near : Shape) (e : near ≡ s) (ts : List Tail) (i : ℕ) where
  head : List ℕ
  head = mark ∷ 4 ∷ 1 ∷ near.cores ∷ near.blocks ∷ near.journal ∷ []

  pub master_head : i < 6 → get_or (mark ∷ 4 ∷ 1 ∷ near.cores ∷ near.blocks ∷ near.journal ∷ []) i 0 ≡ get_or (master_from s ts) i 0
  unfolding master_from master_words head tails
  master_head h = word_head (λ (t : Tail). t.number) (λ (t : Tail). t.position) head 6 refl (tails near ts) i h ∙ ap (λ (z : Shape). get_or (master_from z ts) i 0) e

  pub master_rest : 6 ≤ i → near.cores ≤ (i - 6) / 2 → 0 ≡ get_or (master_from s ts) i 0
  unfolding master_from master_words head tails
  master_rest h q =
      word_rest (λ (t : Tail). t.number) (λ (t : Tail). t.position) head 6 refl (tails near ts) i h (omega (arith, length_tails near ts))
      ∙ ap (λ (z : Shape). get_or (master_from z ts) i 0) e

  pub master_pair : (x : ℕ) → x ≡ pair_word (get_or ts ((i - 6) / 2) (new_tail 0 0)).number (get_or ts ((i - 6) / 2) (new_tail 0 0)).position (i - 6)
      → 6 ≤ i → (i - 6) / 2 < near.cores → x ≡ get_or (master_from s ts) i 0
  unfolding master_from master_words head tails
  master_pair x v h q =
      let t : get_or (tails near ts) ((i - 6) / 2) (new_tail 0 0) ≡ get_or ts ((i - 6) / 2) (new_tail 0 0) = get_or_map_below (λ (c : ℕ). get_or ts c (new_tail 0 0)) near.cores ((i - 6) / 2) (new_tail 0 0) q in
      v
      ∙ ap (λ (t : Tail). pair_word t.number t.position (i - 6)) (sym t)
      ∙ word_pair (λ (t : Tail). t.number) (λ (t : Tail). t.position) head 6 refl (tails near ts) i (new_tail 0 0) h (omega (arith, length_tails near ts))
      ∙ ap (λ (z : Shape). get_or (master_from z ts) i 0) e

-- ---- the store
-- what a writer made of block 0 is a store
pub first_stored : (d w b : Bytes) → w ≡ b → w ++ drop 128 d ≡ store d 0 b
unfolding store replaced
first_stored d w b e = rw e
