-- The commit as it was before request (d): 'A disk whose master holds 0 there is still recovered by its lists'. No command stores one; what
-- an older card stored is read as it was meant.
use Prim.Native.Nat.{ℕ, ◌*◌, ◌≤◌, ◌<◌, min}
use native.Mathlib.Omega.{arith}
use native.Mathlib.Nat.{div-add-mod'}
use mathlib.Core.Path.{◌≡◌, refl, ap, ◌∙◌}
use mathlib.Core.Bool.{true}
use mathlib.Core.List.{List, ◌∷◌}
use lib.ListN.{length, get_or}
use borrow.Author.Tests.{le-leb, eq-eqb, ltb-true}
use Rattle.model.specs.Limits.{max_names, max_number}
use Rattle.model.specs.Lists.{all, Each}
use Rattle.model.specs.Bytes.{be4}
use Rattle.model.specs.Card.{new_name}
use Rattle.model.specs.Layout.{has_head, pair_words, pairs_in, commit_words, list_commit_block, stamp_in, name_count, names_in, few_names, is_listable, is_commit}
use Rattle.model.specs.declared.Shape.{Shape}
use Rattle.model.specs.declared.Name.{Name}
use Rattle.model.specs.declared.CommitLayout.TheVariants.{Lists}
use Rattle.model.proofs.Lists.{and_left, all_mem, get_or_mem, each_get_or, get_or_each}
use Rattle.model.proofs.Limits.{InRange}
use Rattle.model.proofs.Words.{IsWord, word_of}
use Rattle.model.proofs.Encoding.{each_pairs, pairs_of}

-- a commit that keeps the rules of the older format: its number, its stamp and the names that it lists
pub record ListEncodable (s : Shape) (k stamp : ℕ) (ns : List Name) : Type 0 where
  pub shape : InRange s
  pub number : k ≤ max_number
  pub stamped : 1 ≤ stamp
  pub stamp_fits : stamp < 18446744073709551616
  pub few : length ns ≤ max_names
  pub listable : all (is_listable s) ns ≡ true
  pub numbers : Each (λ (n : Name). IsWord n.number) ns

-- '20-23 name count; from 24, per name, core (4), number (4)'
abbrev pub list_words : ℕ → ℕ → List Name → List ℕ
list_words k stamp ns = commit_words k stamp (length ns ∷ pair_words (λ (n : Name). n.core) (λ (n : Name). n.number) ns)

listable_core : (s : Shape) (n : Name) → is_listable s n ≡ true → n.core < s.cores
unfolding is_listable
listable_core s n e = ltb-true n.core s.cores (and_left _ _ e)

module _ {s : Shape} {k stamp : ℕ} {ns : List Name} (g : ListEncodable s k stamp ns) where
  name_words : Each (λ (n : Name). IsWord n.core × IsWord n.number) ns
  name_words =
      let none = new_name 0 0 in
      get_or_each (λ (n : Name). IsWord n.core × IsWord n.number) ns none
      (λ i h.
      let c : (get_or ns i none).core < s.cores = listable_core s (get_or ns i none) (all_mem (is_listable s) ns g.listable (get_or_mem ns i none h)) in
      (omega (arith, g.shape.few_cores, c), each_get_or (λ (n : Name). IsWord n.number) ns g.numbers i none h))

  list_fit : Each IsWord (list_words k stamp ns)
  unfolding commit_words
  list_fit =
      let pairs = each_pairs (λ (n : Name). n.core) (λ (n : Name). n.number) ns name_words in
      (omega arith, (omega arith, (omega (arith, g.number), (omega (arith, g.stamp_fits), (omega arith, (omega (arith, g.few), pairs))))))

  list_word : (i : ℕ) → be4 (list_commit_block k stamp ns) (4 * i) ≡ get_or (list_words k stamp ns) i 0
  unfolding list_commit_block
  list_word = word_of (list_words k stamp ns) list_fit

  pub list_head : has_head 2 k (list_commit_block k stamp ns) ≡ true
  unfolding has_head commit_words
  list_head = simp (list_word 0, list_word 1, list_word 2, eq-eqb k k refl)

  pub list_stamp : stamp_in (list_commit_block k stamp ns) ≡ stamp
  unfolding stamp_in commit_words
  list_stamp = rw (list_word 3, list_word 4) (div-add-mod' stamp 4294967296)

  pub list_count : name_count (list_commit_block k stamp ns) ≡ length ns
  unfolding name_count commit_words
  list_count = list_word 5

  list_pairs : pairs_in new_name (list_commit_block k stamp ns) 24 (length ns) ≡ ns
  unfolding list_commit_block commit_words
  list_pairs = pairs_of (λ (n : Name). n.core) (λ (n : Name). n.number) new_name (λ n. refl) (list_words k stamp ns) list_fit ns 6 refl

  pub list_names : names_in Lists (list_commit_block k stamp ns) ≡ ns
  unfolding names_in
  list_names =
      let all_of : min (name_count (list_commit_block k stamp ns)) max_names ≡ length ns = omega (arith, list_count, g.few) in
      ap (pairs_in new_name (list_commit_block k stamp ns) 24) all_of ∙ list_pairs

  -- 'a commit with that number, stamp 1 or more, up to 12 names, each core below C and number 1 or more'
  pub list_read : is_commit Lists s k (list_commit_block k stamp ns) ≡ true
  unfolding is_commit few_names
  list_read = simp (list_head, list_stamp, list_count, list_names, le-leb 1 stamp g.stamped, le-leb (length ns) max_names g.few, g.listable)
