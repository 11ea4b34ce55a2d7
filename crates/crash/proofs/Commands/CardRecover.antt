-- RECOVER on a card that is down by the ledger is carried out, and its store is the one that the ledger says. A home store
-- changes neither journals nor master, so the rest of recovery stays as it was. With no block left the home area is the
-- target, and the master store empties all journals: no commit has an uncommitted number, so a fresh card has come up.
use Rattle.model.proofs.Base.{ℕ, suc, ◌+◌, ◌-◌, ◌≤◌, ◌<◌, arith, ℕ_discrete, ◌≡◌, refl, sym, ap, subst, ◌∙◌, ◌≢◌}
use Rattle.model.proofs.Base.{false, List, [], ◌∷◌, ◌++◌, map, Memᴰ, mem_head}
use Rattle.model.proofs.Base.{length, length-map, eqb, leb, ne_eqb, lt-ltb}
use Rattle.model.proofs.Base.{below, any}
use Rattle.model.specs.Bytes.{Bytes, block_at, store}
use Rattle.model.specs.Shape.{home_block}
use Rattle.model.specs.Card.{is_up, new_tail, fresh_card}
use Rattle.model.specs.Layout.{has_head, master_block}
use Rattle.model.specs.Journal.{journal, journal_at}
use Rattle.model.specs.Tape.{RECOVER}
use Rattle.model.specs.Command.{World, Outcome, storing}
use Rattle.model.specs.Recovery.{tail_on, layout_on, blocks_left, recovered_to, emptied_tail, brought_up, recover_step, recovered_by, recovered}
use Rattle.model.proofs.Encoding.{master_same}
use Rattle.model.proofs.Lists.{length_below, get_or_map_below}
use Rattle.model.proofs.Select.{select_mem}
use Rattle.model.proofs.Ascending.{Ascending, ascending_below, ascending_select, select_after}
use Rattle.crash.specs.Book.{kept_writes, blank}
use Rattle.crash.specs.Ledger.{Ledger, fresh_ledger, blocks_in, first_number, recover_ledger, recover_store_in, disk_after}
use Rattle.crash.proofs.Disk.Relation.{IsBlock, WellFormed, CardUp, target, CardDown}
use Rattle.crash.proofs.Disk.LedgerFresh.{image_block, blank_block, well_formed_home, with_phase, kept_fits}
use Rattle.crash.proofs.Disk.ReadMaster.{shape_read, layout_read, master_block_lem}
use Rattle.crash.proofs.Disk.ReadRecords.{length_read_list, few_records, journal_read}
use Rattle.crash.proofs.Disk.ReadValid.{own_tails, blocks_on}
use Rattle.crash.proofs.Disk.ReadNewest.{newest_image_lem}
use Rattle.crash.proofs.Commands.CardFrames.{low_stored, low_other, low_journal, low_size, low_bytes, home_stands}
use Rattle.crash.proofs.Commands.CardFresh.{ComeUp, fresh_up}
use Rattle.crash.proofs.Commands.CardCut.{stands_with_phase, target_with_phase, newest_with_phase, held_low}
use Rattle.model.specs.declared.Phase.TheVariants.{Up, Down}
use Rattle.model.specs.declared.Shape.{Shape}
use Rattle.model.specs.declared.Tail.{Tail}
use Rattle.model.specs.declared.CommitLayout.{CommitLayout}
use Rattle.model.specs.declared.CommitLayout.TheVariants.{Numbers}
use Rattle.model.specs.Valid.{Order, in_sequence}

held_ascend : (l : Ledger) → Ascending (blocks_in l.shape.blocks l.book)
unfolding blocks_in
held_ascend l = ascending_select _ (below l.shape.blocks) (ascending_below l.shape.blocks)

-- ---- the kept writes fit, so the target's blocks are blocks of bytes
target_block : (l : Ledger) → WellFormed l → (b : ℕ) → IsBlock (target l b)
unfolding target
target_block l f b =
    image_block l.shape blank b (blank_block b) (kept_writes l.book ++ l.saved) (kept_fits l f)

-- ---- RECOVER
module _ {l : Ledger} {w : World} (v : CardDown l w) where
  abbrev y : CommitLayout
  y = layout_on w.disk

  pub left_read : blocks_left in_sequence y w ≡ l.left
  unfolding blocks_left
  left_read = rw (blocks_on v.well_formed v.disk) (sym v.left)

  -- ---- a home store
  module _ {b : ℕ} {bs : List ℕ} (e : l.left ≡ b ∷ bs) where
    pub held_first : Memᴰ b (blocks_in l.shape.blocks l.book)
    held_first = (select_mem (leb w.card.recovered) (blocks_in l.shape.blocks l.book) b (subst (Memᴰ b) (sym e ∙ v.left) (mem_head refl))).0

    first_low : b < l.shape.blocks
    first_low = held_low l.shape.blocks l.book held_first

    pub home_outcome : recovered in_sequence w ≡ storing w (recovered_to w.card (b + 1)) (home_block b) (target l b)
    unfolding recovered recovered_by recover_step
    home_outcome =
        ap (λ (xs : List ℕ). recover_step in_sequence y Numbers xs w) (left_read ∙ e)
        ∙ ap (storing w (recovered_to w.card (b + 1)) (home_block b)) (newest_image_lem v.well_formed v.disk (v.newest b held_first))

    pub recover_home : CardDown (recover_ledger (b ∷ bs) l) (recovered in_sequence w).world
    unfolding recover_ledger
    recover_home =
        let x = target l b in
        let i = target_block l v.well_formed b in
        subst (λ (o : Outcome World). CardDown (recover_ledger (b ∷ bs) l) o.world) (sym home_outcome)
        (record {
          phase = v.phase;
          ledger = refl;
          memory = v.memory;
          memory_bytes = v.memory_bytes;
          well_formed = well_formed_home b bs l v.well_formed;
          layout = v.layout;
          tail_at = v.tail_at;
          disk = stands_with_phase Down bs (home_stands v.well_formed v.disk b first_low x i);
          left = select_after w.card.recovered b bs (blocks_in l.shape.blocks l.book) (held_ascend l) (sym v.left ∙ e);
          newest = λ j m. newest_with_phase Down bs (v.newest j m);
          at_home =
              λ j h a.
              elim (ℕ_discrete j b) [
                | yes q ↦ subst (λ (k : ℕ). block_at (store w.disk (home_block b) x) (home_block k) ≡ target (with_phase Down bs l) k) (sym q)
                    (low_stored v.well_formed v.disk (home_block b) (omega (arith, first_low)) x i ∙ sym (target_with_phase Down bs l b))
                | no ne ↦ low_other v.well_formed v.disk (home_block b) (omega (arith, first_low)) x i (home_block j) (λ q. ne (omega arith))
                    ∙ v.at_home j h (rw e (unfold any in rw (ne_eqb j b ne) a))
                    ∙ sym (target_with_phase Down bs l j)
              ];
        })

  -- ---- the master store
  abbrev first_tail : ℕ → Tail
  first_tail c = new_tail (first_number l c) 0

  -- 'two above the last committed one read in its journal'
  emptied : (c : ℕ) → c < l.shape.cores → emptied_tail y w.disk c ≡ first_tail c
  unfolding emptied_tail
  emptied c h =
      let own = own_tails v.well_formed v.disk in
      let t = tail_on w.disk c in
      let k : length (journal v.layout l.shape w.disk c t l.shape.journal) ≡ l.book.uncommitted c - l.book.oldest c =
      ap length (journal_read v.well_formed own c h l.shape.journal (few_records v.well_formed own c h)) ∙ length_read_list l c t in
      let e : l.book.oldest c + (l.book.uncommitted c - l.book.oldest c + 1) ≡ l.book.uncommitted c + 1 = omega (arith, (v.well_formed.ranks c h).low) in
      rw (layout_read v.well_formed v.disk, shape_read v.well_formed v.disk, lt-ltb c l.shape.cores h, k, (own.journals c h).number, e)

  is_master_lem : IsBlock (master_block Numbers l.shape first_tail)
  is_master_lem = master_block_lem Numbers v.well_formed.range first_tail

  module _ (e : l.left ≡ []) where
    pub master_outcome : recovered in_sequence w ≡ storing w (brought_up y w.disk) 0 (master_block Numbers l.shape first_tail)
    unfolding recovered recovered_by recover_step
    master_outcome =
        ap (λ (xs : List ℕ). recover_step in_sequence y Numbers xs w) (left_read ∙ e)
        ∙ ap (storing w (brought_up y w.disk) 0)
        (ap (λ (s : Shape). master_block Numbers s (emptied_tail y w.disk)) (shape_read v.well_formed v.disk) ∙ master_same Numbers l.shape (emptied_tail y w.disk) first_tail emptied)

    master_other : (k : ℕ) → k ≢ 0 → block_at (recovered in_sequence w).world.disk k ≡ block_at w.disk k
    master_other k ne = rw master_outcome (low_other v.well_formed v.disk 0 (omega arith) (master_block Numbers l.shape first_tail) is_master_lem k ne)

    -- the home area is the one that the kept writes give
    pub recovered_home : (b : ℕ) → b < l.shape.blocks → block_at (recovered in_sequence w).world.disk (home_block b) ≡ target l b
    recovered_home b h = master_other (home_block b) (λ q. omega arith) ∙ v.at_home b h (rw e (unfold any in refl))

    recovered_clear : (c : ℕ) → c < l.shape.cores → (i q : ℕ) → first_number l c ≤ i → has_head 2 i (journal_at l.shape (recovered in_sequence w).world.disk c q) ≡ false
    recovered_clear c h i q k =
        let r = v.well_formed.ranks c h in
        rw (master_outcome, low_journal v.well_formed v.disk 0 (omega arith) (master_block Numbers l.shape first_tail) is_master_lem c q)
        ((v.disk.journals c h).clear i q (omega (arith, r.mid, r.top)))

    recovered_comes_up : ComeUp l.shape (first_number l) (recovered in_sequence w).world
    recovered_comes_up =
        let o = master_outcome in
        let m = master_block Numbers l.shape first_tail in
        record {
          tails = map (emptied_tail y w.disk) (below 8);
          card = rw o (unfold brought_up in ap (λ (s : Shape). fresh_card Up s (map (emptied_tail y w.disk) (below 8))) (shape_read v.well_formed v.disk));
          eight = length-map (below 8) (emptied_tail y w.disk) ∙ length_below 8;
          tail = λ c h. get_or_map_below (emptied_tail y w.disk) 8 c (new_tail 0 0) (omega (arith, v.well_formed.range.few_cores)) ∙ emptied c h;
          memory = rw o v.memory;
          memory_bytes = rw o v.memory_bytes;
          size = rw o (low_size v.well_formed v.disk 0 (omega arith) m is_master_lem);
          bytes = rw o (low_bytes v.well_formed v.disk 0 (omega arith) m is_master_lem);
          master = rw o (low_stored v.well_formed v.disk 0 (omega arith) m is_master_lem);
          clear = recovered_clear;
        }

    pub recover_master : CardUp (recover_ledger [] l) (recovered in_sequence w).world
    unfolding recover_ledger
    recover_master =
        subst (λ (o : Order). CardUp (fresh_ledger o l.shape (kept_writes l.book ++ l.saved) (first_number l)) (recovered in_sequence w).world) (sym v.well_formed.sequence)
        (fresh_up v.well_formed.range recovered_comes_up (kept_writes l.book ++ l.saved) (kept_fits l v.well_formed) (λ c h. (omega arith, omega arith)))

  -- ---- the store that the ledger says, and when the card comes up
  pub recovered_bytes : ((recovered in_sequence w).world.disk ≡ disk_after RECOVER l w.disk) × ((recovered in_sequence w).stores ≡ 1)
  unfolding disk_after recover_store_in target
  recovered_bytes = go l.left refl
    where
      made : List ℕ → Bytes
      made bs = let b = recover_store_in bs l in store w.disk b.place b.bytes

      go : (bs : List ℕ) → l.left ≡ bs → ((recovered in_sequence w).world.disk ≡ made l.left) × ((recovered in_sequence w).stores ≡ 1)
      go [] e = (ap (λ (o : Outcome World). o.world.disk) (master_outcome e) ∙ ap made (sym e), ap (λ (o : Outcome World). o.stores) (master_outcome e))
      go (b ∷ bs) e = (ap (λ (o : Outcome World). o.world.disk) (home_outcome e) ∙ ap made (sym e), ap (λ (o : Outcome World). o.stores) (home_outcome e))

  pub recover_up : is_up (recovered in_sequence w).world.card.phase ≡ eqb (length l.left) 0
  recover_up = go l.left refl
    where
      go : (bs : List ℕ) → l.left ≡ bs → is_up (recovered in_sequence w).world.card.phase ≡ eqb (length bs) 0
      go [] e = ap is_up (recover_master e).phase
      go (b ∷ bs) e = ap is_up (recover_home e).phase ∙ sym (ne_eqb (suc (length bs)) 0 (λ z. omega arith))
