-- For paper 02's (g): recovery is a function of the disk, of any disk with a fit master. A home store of what recovery gives leaves master
-- and journals, so the disk is read alike and recovery gives the same; a cut starts it over on such a disk; all else is refused. So the
-- RECOVER commands of a card that is down are carried out and bring it up with `recovered_area`.
use Rattle.model.proofs.Base.{ℕ, zero, suc, ◌+◌, ◌*◌, ◌≤◌, ◌<◌, arith, ℕ_discrete, ◌≡◌, refl, sym, ap, subst, ◌∙◌, ◌⊎◌, inl, inr, true, false, not, true≢false}
use Rattle.model.proofs.Base.{List, [], ◌∷◌, ◌++◌, append-nil, Memᴰ, mem_head, length, length-replicate, take, drop, flat_map, below, any, select, eqb, leb, ne_eqb, eq-eqb, le-leb, Bytes}
use lib.Seq.{take-add, drop-drop}
use Rattle.model.specs.Bytes.{part, block_at, store, zero_memory}
use Rattle.model.specs.Shape.{home_block}
use Rattle.model.specs.Card.{is_up, fresh_card, empty_card, down_card}
use Rattle.model.specs.Layout.{master_block, is_master}
use Rattle.model.specs.Journal.{blocks_of, took}
use Rattle.model.specs.Valid.{in_sequence, blocks_held, newest}
use Rattle.model.specs.Command.{World, Outcome, Clear}
use Rattle.model.specs.Tape.{Point}
use Rattle.model.specs.Step.{step_at}
use Rattle.model.specs.Recovery.{shape_on, layout_on, valid_on_by, recover_conditions, recover_conditions_by, blocks_left, image_found, newest_image, recovered_to, emptied_tail, brought_up, recover_step, recovered_by, recovered, recover, held_on, recovered_area, home_area}
use Rattle.model.specs.RecoveryClaims.{DownOver, Unbegun, recovers_from, RecoversWhole, AnyDiskRecovers, StillDown, UpWith, SameUntilUp, AnyTapeRecovers}
use Rattle.model.specs.declared.Shape.{Shape}
use Rattle.model.specs.declared.CommitLayout.{CommitLayout}
use Rattle.model.specs.declared.CommitLayout.TheVariants.{Numbers}
use Rattle.model.specs.declared.Committed.{Committed}
use Rattle.std.specs.Prelude.{Option, Some, None}
use Rattle.model.proofs.Limits.{InRange}
use Rattle.model.proofs.Lists.{cases, or_none, any_append, mem_any, below_mem, flat_map_append, flat_map_below}
use Rattle.model.proofs.Select.{select_same, mem_select}
use Rattle.model.proofs.Ascending.{Ascending, ascending_below, ascending_select, select_after}
use Rattle.model.proofs.Store.{length_store, block_stored, block_other}
use Rattle.model.proofs.Encoding.{length_master}
use Rattle.model.proofs.Journal.{found_cases}
use Rattle.model.proofs.Records.{IfFound}
use Rattle.model.proofs.Alike.{ReadAlike, SameJournals, shapes_alike, layouts_alike, held_on_alike, newest_on_alike, found_alike, home_alike}
use Rattle.model.proofs.OneStore.{master_limits, lengths_right, newest_core, length_newest_image, left_below}
use Rattle.model.proofs.WhileDown.{down_not_blank, down_not_up, while_down}
use Rattle.model.proofs.Command.{clear_refusal, unless_done}
use Rattle.model.proofs.Tape.{Runs, at_end, one_more, run_runs}

-- ---- the home area by its blocks
pub area_blocks : (d : Bytes) (n : ℕ) → part 128 (128 * n) d ≡ flat_map (λ (b : ℕ). block_at d (home_block b)) (below n)
unfolding part block_at below flat_map
area_blocks d zero = refl
area_blocks d (suc n) =
    let e : 128 * suc n ≡ 128 * n + 128 = omega arith in
    let f : 128 + 128 * n ≡ 128 * (1 + n) = omega arith in
    rw (e, take-add (128 * n) 128 (drop 128 d), drop-drop (128 * n) 128 d, f, flat_map_append (λ (b : ℕ). block_at d (home_block b)) (below n) (n ∷ []), append-nil (take 128 (drop (128 * (1 + n)) d)))
    (ap (λ (x : Bytes). x ++ take 128 (drop (128 * (1 + n)) d)) (area_blocks d n))

-- ---- a block that the valid set does not hold is at home
newest_none : (s : Shape) (d : Bytes) (b : ℕ) (best : Option Committed) (es : List Committed) → any (eqb b) (flat_map (blocks_of s d) es) ≡ false → newest s d b best es ≡ best
unfolding newest flat_map took
newest_none s d b best [] h = refl
newest_none s d b best (x ∷ es) h =
    let o = or_none (any (eqb b) (blocks_of s d x)) _ (sym (any_append (eqb b) (blocks_of s d x) (flat_map (blocks_of s d) es)) ∙ h) in
    rw o.0 (newest_none s d b best es o.1)

-- what recovery gives of block b
abbrev pub image_on : Bytes → ℕ → Bytes
image_on d b = newest_image in_sequence (layout_on d) d b

found_none : (d : Bytes) (b : ℕ) → image_found d b None ≡ block_at d (home_block b)
unfolding image_found
found_none d b = refl

image_none : (d : Bytes) (b : ℕ) → newest (shape_on d) d b None (valid_on_by in_sequence (layout_on d) d) ≡ None → image_on d b ≡ block_at d (home_block b)
unfolding newest_image
image_none d b m = ap (image_found d b) m ∙ found_none d b

pub not_held : (d : Bytes) (b : ℕ) → b < (shape_on d).blocks → any (eqb b) (held_on d) ≡ false → image_on d b ≡ block_at d (home_block b)
unfolding blocks_held
not_held d b h n =
    let es = valid_on_by in_sequence (layout_on d) d in
    let bs = flat_map (blocks_of (shape_on d) d) es in
    let free : any (eqb b) bs ≡ false =
    cases (any (eqb b) bs)
    (λ t. absurd (true≢false (sym (mem_any (eqb b) (mem_select (λ (i : ℕ). any (eqb i) bs) (below (shape_on d).blocks) b (below_mem _ b h) t) (eq-eqb b b refl)) ∙ n)))
    (λ f. f) in
    image_none d b (newest_none (shape_on d) d b None es free)

-- ---- a home store of what recovery gives
image_kept : {d e : Bytes} → ReadAlike d e → (b : ℕ) → (newest (shape_on d) d b None (valid_on_by in_sequence (layout_on d) d) ≡ None → block_at e (home_block b) ≡ block_at d (home_block b)) → image_on e b ≡ image_on d b
unfolding newest_image
image_kept {d} {e} a b home =
    let y = layout_on d in
    let same : newest (shape_on e) e b None (valid_on_by in_sequence (layout_on e) e) ≡ newest (shape_on d) d b None (valid_on_by in_sequence y d) =
    ap (λ (z : CommitLayout). newest (shape_on e) e b None (valid_on_by in_sequence z e)) (sym (layouts_alike a)) ∙ sym (newest_on_alike a in_sequence y b) in
    let low : (x : Committed) → newest (shape_on d) d b None (valid_on_by in_sequence y d) ≡ Some x → x.core < (shape_on d).cores =
    λ x m. subst (IfFound (λ (z : Committed). z.core < (shape_on d).cores)) m (newest_core in_sequence y d b) in
    ap (image_found e b) same
    ∙ found_cases (newest (shape_on d) d b None (valid_on_by in_sequence y d))
    (λ m. ap (image_found e b) m ∙ found_none e b ∙ home m ∙ sym (found_none d b) ∙ sym (ap (image_found d b) m))
    (λ x m. ap (image_found e b) m ∙ sym (found_alike a b x (low x m)) ∙ sym (ap (image_found d b) m))

module _ (d : Bytes) (n : length d ≡ 32896) (l : InRange (shape_on d)) (b : ℕ) (h : b < (shape_on d).blocks) where
  abbrev stored_there : Bytes
  stored_there = store d (home_block b) (image_on d b)

  image_long : length (image_on d b) ≡ 128
  image_long = length_newest_image in_sequence (layout_on d) d l n b h

  there_fits : 128 * home_block b + 128 ≤ length d
  there_fits = omega (arith, l.few_blocks)

  stored_alike : ReadAlike d stored_there
  stored_alike = home_alike d n l b h (image_on d b) image_long

  stored_long : length stored_there ≡ 32896
  stored_long = length_store d (home_block b) (image_on d b) there_fits image_long ∙ n

  stored_at : block_at stored_there (home_block b) ≡ image_on d b
  stored_at = block_stored d (home_block b) (image_on d b) there_fits image_long

  stored_else : (i : ℕ) → (i ≡ b → ⊥) → block_at stored_there (home_block i) ≡ block_at d (home_block i)
  stored_else i ne = block_other d (home_block b) (image_on d b) there_fits image_long (home_block i) (λ q. ne (omega arith))

  -- of every block recovery gives what it gave
  stored_gives : (i : ℕ) → image_on stored_there i ≡ image_on d i
  stored_gives i =
      image_kept stored_alike i
      (λ m.
      elim (ℕ_discrete i b) [
        | yes q ↦ subst (λ (j : ℕ). block_at stored_there (home_block j) ≡ block_at d (home_block j)) (sym q)
            (stored_at ∙ image_none d b (subst (λ (j : ℕ). newest (shape_on d) d j None (valid_on_by in_sequence (layout_on d) d) ≡ None) q m))
        | no ne ↦ stored_else i ne
      ])

-- ---- two disks that are read alike
alike_refl : (d : Bytes) → ReadAlike d d
alike_refl d = record { master = refl; journals = record { block = λ c p h. refl } }

alike_trans : {d e f : Bytes} → ReadAlike d e → ReadAlike e f → ReadAlike d f
alike_trans {d} {e} {f} a b =
    let j : SameJournals (shape_on d) e f = subst (λ (s : Shape). SameJournals s e f) (sym (shapes_alike a)) b.journals in
    record { master = a.master ∙ b.master; journals = record { block = λ c p h. a.journals.block c p h ∙ j.block c p h } }

held_same : {d e : Bytes} → ReadAlike d e → held_on e ≡ held_on d
held_same {d} {e} a =
    ap (λ (y : CommitLayout). blocks_held (shape_on e) e (valid_on_by in_sequence y e)) (sym (layouts_alike a)) ∙ sym (held_on_alike a in_sequence (layout_on d))

held_ascends : (d : Bytes) → Ascending (held_on d)
unfolding blocks_held
held_ascends d = ascending_select _ (below (shape_on d).blocks) (ascending_below (shape_on d).blocks)

-- ---- recovery under way, over what was disk d
-- the blocks that are left to store home
abbrev left_in : World → List ℕ
left_in w = blocks_left in_sequence (layout_on w.disk) w

record UnderWay (d : Bytes) (w : World) : Type 0 where
  over : DownOver w
  alike : ReadAlike d w.disk
  gives : (b : ℕ) → image_on w.disk b ≡ image_on d b
  at_home : (b : ℕ) → b < (shape_on d).blocks → any (eqb b) (left_in w) ≡ false → block_at w.disk (home_block b) ≡ image_on d b

-- begun: no block is passed
module _ (w : World) (b : Unbegun w) where
  left_all : left_in w ≡ held_on w.disk
  unfolding blocks_left
  left_all =
      ap (λ (r : ℕ). select (leb r) (held_on w.disk)) b.none_passed ∙ select_same (leb 0) (held_on w.disk) (λ i m. le-leb 0 i (omega arith))

  begins : UnderWay w.disk w
  begins =
      record {
        over = b.over;
        alike = alike_refl w.disk;
        gives = λ i. refl;
        at_home = λ i h n. sym (not_held w.disk i h (ap (any (eqb i)) (sym left_all) ∙ n));
      }

module _ {d : Bytes} {w : World} (u : UnderWay d w) where
  under_limits : InRange (shape_on w.disk)
  unfolding shape_on
  under_limits = master_limits (block_at w.disk 0) u.over.fit

  -- RECOVER is carried out
  under_clear : Clear (recover_conditions w)
  unfolding recover_conditions_by
  under_clear = (
    lengths_right w u.over.size u.over.memory,
    (down_not_blank w.card.phase u.over.down, (down_not_up w.card.phase u.over.down, (ap not u.over.fit, tt))),
  )

  under_done : recover in_sequence w ≡ recovered in_sequence w
  unfolding recover
  under_done = unless_done (recover_conditions w) w (recovered in_sequence w) (clear_refusal (recover_conditions w) under_clear)

  under_step : {bs : List ℕ} → left_in w ≡ bs → recover in_sequence w ≡ recover_step in_sequence (layout_on w.disk) Numbers bs w
  under_step e = under_done ∙ (unfold recovered recovered_by in ap (λ (bs : List ℕ). recover_step in_sequence (layout_on w.disk) Numbers bs w) e)

  -- what recovery gives is what it gave
  under_area : recovered_area w.disk ≡ recovered_area d
  unfolding recovered_area
  under_area =
      ap (λ (s : Shape). flat_map (image_on w.disk) (below s.blocks)) (sym (shapes_alike u.alike))
      ∙ flat_map_below (image_on w.disk) (image_on d) (shape_on d).blocks (λ b h. u.gives b)

  -- ---- a home store
  module _ {b : ℕ} {bs : List ℕ} (e : left_in w ≡ b ∷ bs) where
    abbrev after_home : World
    after_home = record { card = recovered_to w.card (b + 1); disk = store w.disk (home_block b) (image_on w.disk b); memory = w.memory }

    home_done : recover in_sequence w ≡ record { answer = 0; world = after_home; stores = 1 }
    unfolding recover_step
    home_done = under_step e

    block_low : b < (shape_on w.disk).blocks
    block_low = left_below in_sequence (layout_on w.disk) w (subst (Memᴰ b) (sym e) (mem_head refl))

    home_left : left_in after_home ≡ bs
    unfolding blocks_left
    home_left =
        ap (select (leb (b + 1))) (held_same (stored_alike w.disk u.over.size under_limits b block_low))
        ∙ sym (select_after w.card.recovered b bs (held_on w.disk) (held_ascends w.disk) e)

    home_under : UnderWay d after_home
    home_under =
        let v = w.disk in
        let a = stored_alike v u.over.size under_limits b block_low in
        record {
          over =
              record {
                down = u.over.down;
                memory = u.over.memory;
                size = stored_long v u.over.size under_limits b block_low;
                fit = ap is_master (sym a.master) ∙ u.over.fit;
              };
          alike = alike_trans u.alike a;
          gives = λ i. stored_gives v u.over.size under_limits b block_low i ∙ u.gives i;
          at_home =
              λ i h n.
              elim (ℕ_discrete i b) [
                | yes q ↦ subst (λ (j : ℕ). block_at after_home.disk (home_block j) ≡ image_on d j) (sym q) (stored_at v u.over.size under_limits b block_low ∙ u.gives b)
                | no ne ↦ stored_else v u.over.size under_limits b block_low i ne
                    ∙ u.at_home i h (ap (any (eqb i)) e ∙ (unfold any in rw (ne_eqb i b ne) (ap (any (eqb i)) (sym home_left) ∙ n)))
              ];
        }

  -- ---- the master store
  module _ (e : left_in w ≡ []) where
    abbrev after_master : World
    after_master =
        record { card = brought_up (layout_on w.disk) w.disk; disk = store w.disk 0 (master_block Numbers (shape_on w.disk) (emptied_tail (layout_on w.disk) w.disk)); memory = w.memory }

    master_done : recover in_sequence w ≡ record { answer = 0; world = after_master; stores = 1 }
    unfolding recover_step
    master_done = under_step e

    master_up : is_up after_master.card.phase ≡ true
    unfolding brought_up fresh_card
    master_up = refl

    master_home : home_area (shape_on d).blocks after_master ≡ recovered_area d
    unfolding home_area recovered_area
    master_home =
        area_blocks after_master.disk (shape_on d).blocks
        ∙ flat_map_below (λ (b : ℕ). block_at after_master.disk (home_block b)) (image_on d) (shape_on d).blocks
        (λ b h.
        block_other w.disk 0 _ (omega (arith, u.over.size)) (length_master Numbers under_limits (emptied_tail (layout_on w.disk) w.disk)) (home_block b) (λ q. omega arith)
        ∙ u.at_home b h (ap (any (eqb b)) e ∙ (unfold any in refl)))

    master_brought : UpWith d after_master
    master_brought = record { up = master_up; home = master_home }

-- ---- one RECOVER
module _ {d : Bytes} {w : World} (u : UnderWay d w) where
  under_answer : (recover in_sequence w).answer ≡ 0
  under_answer = by_left (left_in w) refl
    where
      by_left : (bs : List ℕ) → left_in w ≡ bs → (recover in_sequence w).answer ≡ 0
      by_left [] e = ap (λ (o : Outcome World). o.answer) (master_done u e)
      by_left (b ∷ bs) e = ap (λ (o : Outcome World). o.answer) (home_done u e)

  -- with none left it is brought up
  under_last : length (left_in w) ≡ 0 → UpWith d (recover in_sequence w).world
  under_last z = by_left (left_in w) refl
    where
      by_left : (bs : List ℕ) → left_in w ≡ bs → UpWith d (recover in_sequence w).world
      by_left [] e = subst (λ (o : Outcome World). UpWith d o.world) (sym (master_done u e)) (master_brought u e)
      by_left (b ∷ bs) e = absurd (omega (arith, z, ap length e))

  -- otherwise one less is left
  under_next : 0 < length (left_in w) → UnderWay d (recover in_sequence w).world × (suc (length (left_in (recover in_sequence w).world)) ≡ length (left_in w))
  under_next z = by_left (left_in w) refl
    where
      by_left : (bs : List ℕ) → left_in w ≡ bs
          → UnderWay d (recover in_sequence w).world × (suc (length (left_in (recover in_sequence w).world)) ≡ length (left_in w))
      by_left [] e = absurd (omega (arith, z, ap length e))
      by_left (b ∷ bs) e =
          subst (λ (o : Outcome World). UnderWay d o.world × (suc (length (left_in o.world)) ≡ length (left_in w))) (sym (home_done u e))
          (home_under u e, ap (λ (l : List ℕ). suc (length l)) (home_left u e) ∙ sym (ap length e))

-- ---- the RECOVER commands alone
module _ (w : World) (b : Unbegun w) where
  under_times : (n : ℕ) → n ≤ length (held_on w.disk) → UnderWay w.disk (recovers_from n w) × (length (left_in (recovers_from n w)) + n ≡ length (held_on w.disk))
  unfolding recovers_from
  under_times zero h = (begins w b, let e = ap length (left_all w b) in omega arith)
  under_times (suc n) h =
      let r = under_times n (omega arith) in
      let s = under_next r.0 (omega (arith, r.1)) in
      (s.0, omega (arith, s.1, r.1))

  recovers_here : RecoversWhole w.disk w
  unfolding recovers_from
  recovers_here =
      let last = under_times (length (held_on w.disk)) (omega arith) in
      let end = under_last last.0 (omega (arith, last.1)) in
      record {
        done = λ n i. under_answer (under_times n i).0;
        down = λ n i. (under_times n i).0.over.down;
        same = λ n i. under_area (under_times n i).0;
        up = end.up;
        home = end.home;
      }

-- any disk of the stated length with a fit master
pub recovers_whole : AnyDiskRecovers
recovers_whole w b = recovers_here w b

-- ---- with cuts and whatever else stands on the tape
-- a cut over such a disk leaves recovery unbegun
pub cut_unbegun : (d : Bytes) → length d ≡ 32896 → is_master (block_at d 0) ≡ true → Unbegun (record { card = down_card; disk = d; memory = zero_memory })
unfolding down_card empty_card fresh_card zero_memory
cut_unbegun d size fit = record { over = record { down = refl; memory = length-replicate {A = ℕ} 16384 0; size = size; fit = fit }; none_passed = refl }

cut_under : {d : Bytes} {w : World} → UnderWay d w → UnderWay d (record { card = down_card; disk = w.disk; memory = zero_memory })
cut_under {d} {w} u =
    let c = begins (record { card = down_card; disk = w.disk; memory = zero_memory }) (cut_unbegun w.disk u.over.size u.over.fit) in
    record {
      over = c.over;
      alike = u.alike;
      gives = u.gives;
      at_home = λ b h n. c.at_home b (subst (λ (s : Shape). b < s.blocks) (shapes_alike u.alike) h) n ∙ u.gives b;
    }

recovered_under : {d : Bytes} {w : World} → UnderWay d w → UnderWay d (recovered in_sequence w).world ⊎ UpWith d (recovered in_sequence w).world
recovered_under {d} {w} u = subst (λ (o : Outcome World). UnderWay d o.world ⊎ UpWith d o.world) (under_done u) (by_count (length (left_in w)) refl)
  where
    by_count : (n : ℕ) → length (left_in w) ≡ n → UnderWay d (recover in_sequence w).world ⊎ UpWith d (recover in_sequence w).world
    by_count zero e = inr (under_last u e)
    by_count (suc n) e = inl (under_next u (omega (arith, e))).0

-- whatever command comes next, recovery is still under way over a disk of which it gives the same, or the card is up with that
same_until_up : (d t : Bytes) (at : ℕ) (w : World) → UnderWay d w → UnderWay d (step_at t at w).world ⊎ UpWith d (step_at t at w).world
same_until_up d t at w u =
    while_down in_sequence w u.over.down (λ (x : Outcome World). UnderWay d x.world ⊎ UpWith d x.world)
    (λ n. inl u) (inl (cut_under u)) (λ cl. recovered_under u) t at

still_down : {d : Bytes} {w : World} → UnderWay d w → StillDown d w
still_down u = record { over = u.over; same = under_area u }

-- and so along a whole run
same_along : {d t : Bytes} {at n : ℕ} {w : World} {ps : List (Point World)} → UnderWay d w → Runs step_at t at n w ps → SameUntilUp d w ps
same_along u (at_end h) = still_down u
same_along {d} {t} {at} {n} {w} u (one_more {p = p} {ps = ps} h e rest) = (still_down u, go (same_until_up d t at w u) (λ v. same_along v rest))
  where
    world_is : (step_at t at w).world ≡ p.outcome.world
    world_is = ap (λ (q : Point World). q.outcome.world) (sym e)

    go : UnderWay d (step_at t at w).world ⊎ UpWith d (step_at t at w).world → (UnderWay d p.outcome.world → SameUntilUp d p.outcome.world ps)
        → UpWith d p.outcome.world ⊎ SameUntilUp d p.outcome.world ps
    go (inl v) more = inr (more (subst (UnderWay d) world_is v))
    go (inr v) more = inl (subst (UpWith d) world_is v)

pub recovers_until_up : AnyTapeRecovers step_at
recovers_until_up t w b = same_along (begins w b) (run_runs step_at t w)
