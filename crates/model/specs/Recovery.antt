-- CUT: 'memory lost, card down; a recovery under way starts over'. RECOVER: 'next store of recovery'.
use Rattle.std.specs.Prelude.{ℕ, suc, ◌+◌, ◌*◌, min, Bool, cond, not, length, ltb, leb, eqb}
use mathlib.Core.List.{List, [], ◌∷◌, map, flat_map}
use Rattle.model.specs.Limits.{max_cores, max_number, block_size}
use Rattle.model.specs.Lists.{below, select}
use Rattle.model.specs.Bytes.{Bytes, part, block_at, zero_memory}
use Rattle.model.specs.Shape.{home_block}
use Rattle.model.specs.Card.{is_blank, is_up, new_tail, fresh_card, down_card}
use Rattle.model.specs.Layout.{master_block, layout_in, has_master_fields, is_master, shape_in, tail_in}
use Rattle.model.specs.Journal.{journal, journals, blocks_of, image_of}
use Rattle.model.specs.Valid.{Order, in_sequence, valid_set, blocks_held, newest}
use Rattle.model.specs.Command.{World, Outcome, BlockStore, unstored, storing_block, unless, wrong_length}
use Rattle.model.specs.declared.Phase.TheVariants.{Up}
use Rattle.model.specs.declared.Shape.{Shape}
use Rattle.model.specs.declared.Tail.{Tail}
use Rattle.model.specs.declared.Card.{Card}
use Rattle.model.specs.declared.CommitLayout.{CommitLayout}
use Rattle.model.specs.declared.CommitLayout.TheVariants.{Lists, Numbers}
use Rattle.model.specs.declared.Committed.{Committed}
use Rattle.std.specs.Prelude.{Option, Some, None}

-- ---- CUT
unfoldable pub cut_conditions : World → List (Bool × ℕ)
cut_conditions w = (wrong_length w, 1) ∷ (is_blank w.card.phase, 20) ∷ []

unfoldable pub cut : World → Outcome World
cut w = unless (cut_conditions w) w (unstored w down_card zero_memory)

-- ---- what the master and the journals of a disk give
unfoldable pub shape_on : Bytes → Shape
shape_on d = shape_in (block_at d 0)

unfoldable pub tail_on : Bytes → ℕ → Tail
tail_on d c = tail_in (block_at d 0) c

-- paper 02, (d): 'A disk whose master holds 0 there is still recovered by its lists'
unfoldable pub layout_on : Bytes → CommitLayout
layout_on d = layout_in (block_at d 0)

-- a journal read whole: no record is shorter than two blocks, so J bounds their number
unfoldable pub committed_by : CommitLayout → Bytes → List Committed
committed_by y d = let s = shape_on d in journals y s d (tail_on d) (λ (c : ℕ). s.journal)

unfoldable pub valid_on_by : Order → CommitLayout → Bytes → List Committed
valid_on_by o y d = valid_set o y (shape_on d) d (tail_on d) (committed_by y d)

-- by the disk's layout
abbrev pub committed_on : Bytes → List Committed
committed_on d = committed_by (layout_on d) d

-- and with request (c) in force
abbrev pub valid_on : Bytes → List Committed
valid_on d = valid_on_by in_sequence (layout_on d) d

-- ---- RECOVER
-- given what is taken for a master
unfoldable pub recover_conditions_by : (Bytes → Bool) → World → List (Bool × ℕ)
recover_conditions_by fits w =
    (wrong_length w, 1) ∷ (is_blank w.card.phase, 20) ∷ (is_up w.card.phase, 23) ∷ (not (fits (block_at w.disk 0)), 8) ∷ []

abbrev pub recover_conditions : World → List (Bool × ℕ)
recover_conditions w = recover_conditions_by is_master w

-- 'from the lowest block to the highest': the blocks held in the valid set that recovery has not passed
unfoldable pub blocks_left : Order → CommitLayout → World → List ℕ
blocks_left o y w = select (leb w.card.recovered) (blocks_held (shape_on w.disk) w.disk (valid_on_by o y w.disk))

-- the place of block b among those given; as many as all where it is not there
unfoldable pub place_of : ℕ → List ℕ → ℕ
place_of b [] = 0
place_of b (x ∷ xs) = cond (eqb b x) 0 (suc (place_of b xs))

-- 'Each block held in the valid set gets the image of highest stamp'
unfoldable pub image_found : Bytes → ℕ → Option Committed → Bytes
image_found d b None = block_at d (home_block b)
image_found d b (Some e) = image_of (shape_on d) d e (place_of b (blocks_of (shape_on d) d e))

unfoldable pub newest_image : Order → CommitLayout → Bytes → ℕ → Bytes
newest_image o y d b = image_found d b (newest (shape_on d) d b None (valid_on_by o y d))

abbrev pub recovered_to : Card → ℕ → Card
recovered_to x b =
    record { phase = x.phase; shape = x.shape; closes = x.closes; recovered = b; tails = x.tails; cores = x.cores; holders = x.holders }

-- 'for each core a tail number two above the last committed one read in its journal (with none, one above the old
-- tail), at most 4,000,000,001', 'position 0'; n were read
abbrev pub tail_past : Tail → ℕ → Tail
tail_past t n = new_tail (min (t.number + (n + 1)) (suc max_number)) 0

unfoldable pub emptied_tail : CommitLayout → Bytes → ℕ → Tail
emptied_tail y d c =
    let s = shape_on d in
    let t = tail_on d c in
    cond (ltb c s.cores) (tail_past t (length (journal y s d c t s.journal))) (new_tail 0 0)

-- 'Then one master store empties all journals ..' 'The card is up, stamps start again at 1.'
unfoldable pub brought_up : CommitLayout → Bytes → Card
brought_up y d = fresh_card Up (shape_on d) (map (emptied_tail y d) (below max_cores))

-- a home store of the lowest block left, or the master store; read by layout y, the closing master for layout z
abbrev pub recover_store : Order → CommitLayout → CommitLayout → List ℕ → Bytes → BlockStore
recover_store o y z [] d = record { place = 0; bytes = master_block z (shape_on d) (emptied_tail y d) }
recover_store o y z (b ∷ bs) d = record { place = home_block b; bytes = newest_image o y d b }

unfoldable pub recover_step : Order → CommitLayout → CommitLayout → List ℕ → World → Outcome World
recover_step o y z [] w = storing_block w (brought_up y w.disk) (recover_store o y z [] w.disk)
recover_step o y z (b ∷ bs) w = storing_block w (recovered_to w.card (b + 1)) (recover_store o y z (b ∷ bs) w.disk)

unfoldable pub recovered_by : Order → CommitLayout → CommitLayout → World → Outcome World
recovered_by o y z w = recover_step o y z (blocks_left o y w) w

-- 'A disk whose master holds 0 there is still recovered by its lists, under (c), and the closing master store of that recovery writes 1.'
unfoldable pub recovered : Order → World → Outcome World
recovered o w = recovered_by o (layout_on w.disk) Numbers w

unfoldable pub recover : Order → World → Outcome World
recover o w = unless (recover_conditions w) w (recovered o w)

-- RECOVER before request (d): by lists, without a look at bytes 8 to 11 of the master; its closing master holds 0 there. No command is
-- defined by it: with it is said how an older disk is recovered
unfoldable pub recover_by_lists : Order → World → Outcome World
recover_by_lists o w = unless (recover_conditions_by has_master_fields w) w (recovered_by o Lists Lists w)

-- ---- paper 02, (g): 'brings back the same home area': recovery as a function of the disk, by its own layout
-- the home blocks held in the valid set
abbrev pub held_on : Bytes → List ℕ
held_on d = blocks_held (shape_on d) d (valid_on d)

-- of each home block the newest image in the valid set, else what stands at home
unfoldable pub recovered_area : Bytes → Bytes
recovered_area d = flat_map (newest_image in_sequence (layout_on d) d) (below (shape_on d).blocks)

-- 'The home area is the bytes of disk blocks 1 to B'
unfoldable pub home_area : ℕ → World → Bytes
home_area n w = part block_size (block_size * n) w.disk
