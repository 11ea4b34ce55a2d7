-- What a cut hands on to recovery, from layer A to the relation of layer B.
-- The newest image of each block that the valid set holds is the one that the kept writes give; a block that it does not
-- hold has at home what they give.
use Prim.Native.Nat.{ℕ, ◌<◌}
use mathlib.Core.Path.{◌≡◌, ◌∙◌, ap}
use mathlib.Core.Option.{Option, none, some}
use mathlib.Core.Bool.{false, So}
use mathlib.Core.List.{Memᴰ}
use lib.Dec.{eqb}
use Rattle.model.specs.Lists.{any, below}
use Rattle.model.specs.Bytes.{Bytes}
use Rattle.model.specs.declared.Name.{Name}
use Rattle.model.proofs.Lists.{any_mem, mem_any, mem_get_or, and_left, below_mem}
use Rattle.model.proofs.Select.{select_mem, mem_select}
use Rattle.crash.specs.Book.{is_closed, Book}
use Rattle.crash.specs.Ledger.{Ledger, unretired, valid_in, blocks_in}
use Rattle.crash.proofs.Books.Tests.{clash, any_in, in_any, name_equality, block_equality}
use Rattle.crash.proofs.Books.Largest.{stage_of, RetiredBelow}
use Rattle.crash.proofs.Blocks.Invariant.{Inv, committed_closed, took_in, image_at}
use Rattle.crash.proofs.Blocks.ClosedImages.{Imaged, image_of_closed}
use Rattle.crash.proofs.Blocks.CutImages.{NewestHolder, newest_holder, newest_target}
use Rattle.crash.proofs.Disk.Relation.{Newest, target}
use Rattle.crash.proofs.Disk.ReadValid.{valid_unretired}

held_by : (l : Ledger) (b : ℕ) → Memᴰ b (blocks_in l.shape.blocks l.book) → (t : Name) × Memᴰ t (valid_in l.book) × So (took_in l.book b t)
unfolding blocks_in
held_by l b m = any_mem (took_in l.book b) (valid_in l.book) (select_mem _ (below l.shape.blocks) b m).1

valid_closed : (k : Book) (t : Name) → Memᴰ t (valid_in k) → So (is_closed (stage_of k t))
unfolding unretired
valid_closed k t m = committed_closed (stage_of k t) (and_left _ _ (select_mem _ k.opened t (valid_unretired k t m)).1)

module _ {home : ℕ → Bytes} {l : Ledger} (v : Inv home l) (numbered : RetiredBelow l.book) (b : ℕ) where
  newest_of : Imaged l → (o : Option Name) → NewestHolder l b o → Memᴰ b (blocks_in l.shape.blocks l.book) → Newest l b
  unfolding target
  newest_of imaged none k m = let h = held_by l b m in absurd (k h.0 (in_any name_equality h.1) h.2)
  newest_of imaged (some t) k m =
      let bs = (l.book.entry t).blocks in
      let valid : Memᴰ t (valid_in l.book) = any_in name_equality t _ k.0 in
      let p = mem_get_or (any_in block_equality b bs k.1) 0 in
      record {
        holder = t;
        valid = valid;
        place = p.0;
        within = p.1;
        block = p.2;
        highest = λ u n h. k.2 u (in_any name_equality n) (in_any block_equality h);
        image = image_of_closed l imaged t (valid_closed l.book t valid) p.0 p.1 ∙ ap (image_at l t) p.2 ∙ newest_target v numbered b (some t) k;
      }

  home_of : (o : Option Name) → NewestHolder l b o → b < l.shape.blocks → any (eqb b) (blocks_in l.shape.blocks l.book) ≡ false → home b ≡ target l b
  unfolding target blocks_in
  home_of none k h n = newest_target v numbered b none k
  home_of (some t) k h n =
      clash
      (in_any block_equality
      (mem_select (λ (b : ℕ). any (took_in l.book b) (valid_in l.book)) (below l.shape.blocks) b (below_mem _ b h)
      (mem_any (took_in l.book b) (any_in name_equality t _ k.0) k.1)))
      n

  pub held_newest : Imaged l → Memᴰ b (blocks_in l.shape.blocks l.book) → Newest l b
  held_newest imaged m = let n = newest_holder l b in newest_of imaged n.0 n.1 m

  pub home_target : b < l.shape.blocks → any (eqb b) (blocks_in l.shape.blocks l.book) ≡ false → home b ≡ target l b
  home_target h n = let k = newest_holder l b in home_of k.0 k.1 h n
