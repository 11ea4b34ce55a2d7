-- Wrong readers of one record, each with a record that tells it from the right one.
use Prim.Native.Nat.{ℕ, ◌+◌, ◌*◌, ◌%◌, ◌^◌}
use mathlib.Core.Path.{◌≡◌, refl}
use mathlib.Core.Bool.{Bool, true, false, cond, not, ◌&&◌, ◌||◌}
use mathlib.Core.List.{List, [], ◌∷◌, ◌++◌, map}
use lib.ListN.{get_or, replicate}
use lib.Dec.{ltb, leb, eqb}
use Rattle.model.specs.Limits.{max_names, max_taken, max_number}
use Rattle.model.specs.Lists.{below, all}
use Rattle.model.specs.Bytes.{Bytes, block}
use Rattle.model.specs.Layout.{mark, Tag, new_tag, descriptor_block, has_head, block_count, tags_in, is_tag, distinct, stamp_in, name_count, is_commit}
use Rattle.model.specs.Journal.{journal_at, blocks_of}
use Rattle.model.specs.Command.{refusal}
use Rattle.model.specs.JournalEnds.{lacks_descriptor, has_bad_field, read_record, end_number, record_answer}
use Rattle.model.specs.declared.CommitLayout.{CommitLayout}
use Rattle.model.specs.declared.CommitLayout.TheVariants.{Lists, Numbers}
use Rattle.model.specs.declared.Committed.{Committed}
use Rattle.std.specs.Prelude.{Ok, Err}
use Rattle.model.specs.declared.JournalEnd.TheVariants.{NoDescriptor, BadDescriptor, TooFewBlocks, NoCommit}
use Rattle.page.proofs.EndCases.{journal_of, nine_blocks, plain, record_of, ended_by, numbering, number_on, number_read, records_compute}

-- ---- readers by what they ask of number expected, blocks left, descriptor and commit (n + 1 past position 0), with the end for each, in their
-- order
abbrev Asks : Type 0
Asks = ℕ → ℕ → Bytes → Bytes → List (Bool × ℕ)

unfoldable pub number_by : Asks → ℕ → ℕ → List Bytes → ℕ
number_by asks k left bs =
    let d = journal_of nine_blocks bs in
    let e = journal_at nine_blocks d 0 0 in
    refusal (asks k left e (journal_at nine_blocks d 0 (0 + (block_count e + 1))))

-- the right one
unfoldable pub asks_in_order : CommitLayout → Asks
asks_in_order y k left e f =
    (lacks_descriptor k left e, 1) ∷ (has_bad_field nine_blocks e, 2) ∷ (ltb left (block_count e + 2), 3) ∷ (not (is_commit y nine_blocks k f), 4) ∷ []

four_tests : (a b c d : Bool) (e : Committed) →
    (record_answer (cond a (Err NoDescriptor) (cond b (Err BadDescriptor) (cond c (Err TooFewBlocks) (cond d (Err NoCommit) (Ok e)))))).0
    ≡ refusal ((a, 1) ∷ (b, 2) ∷ (c, 3) ∷ (d, 4) ∷ [])
unfolding record_answer end_number refusal
four_tests true b c d e = refl
four_tests false true c d e = refl
four_tests false false true d e = refl
four_tests false false false true e = refl
four_tests false false false false e = refl

pub in_order : (y : CommitLayout) (k left : ℕ) (bs : List Bytes) → number_read y k left bs ≡ number_by (asks_in_order y) k left bs
unfolding number_on number_by asks_in_order read_record
in_order y k left bs = four_tests _ _ _ _ _

-- ---- wrong ones, each beside the right one on one record; of commits with numbers
unfoldable pub both : Asks → ℕ → ℕ → List Bytes → ℕ × ℕ
both asks k left bs = (number_read Numbers k left bs, number_by asks k left bs)

-- 3 before 2
unfoldable pub length_first : Asks
length_first k left e f =
    (lacks_descriptor k left e, 1) ∷ (ltb left (block_count e + 2), 3) ∷ (has_bad_field nine_blocks e, 2) ∷ (not (is_commit Numbers nine_blocks k f), 4) ∷ []

pub length_first_differs : both length_first 5 1 (record_of 5 (plain (259 ∷ []))) ≡ (2, 3)
unfolding records_compute number_by both length_first
length_first_differs = refl

-- 1 where one block is left
unfoldable pub one_left_is_none : Asks
one_left_is_none k left e f = (leb left 1, 1) ∷ asks_in_order Numbers k left e f

pub one_left_differs : both one_left_is_none 5 1 (record_of 5 []) ≡ (3, 1)
unfolding records_compute number_by both asks_in_order one_left_is_none
one_left_differs = refl

-- 4 for a number above the limit
unfoldable pub limit_last : Asks
limit_last k left e f =
    (eqb left 0 || not (has_head 1 k e), 1) ∷ (has_bad_field nine_blocks e, 2) ∷ (ltb left (block_count e + 2), 3) ∷
    (ltb max_number k || not (is_commit Numbers nine_blocks k f), 4) ∷ []

pub limit_last_differs : both limit_last 4000000001 2 (record_of 4000000001 []) ≡ (1, 4)
unfolding records_compute number_by both limit_last
limit_last_differs = refl

-- blocks cut to so many of their low bytes before the range is tested
unfoldable pub low_bytes : ℕ → Asks
low_bytes width k left e f =
    let n = block_count e in
    let hs = map (λ (h : Tag). new_tag (h.block % 256 ^ width) h.flag) (tags_in e n) in
    (lacks_descriptor k left e, 1) ∷ (ltb max_taken n || not (all (is_tag nine_blocks) hs) || not (distinct hs), 2) ∷
    (ltb left (n + 2), 3) ∷ (not (is_commit Numbers nine_blocks k f), 4) ∷ []

-- with one, two or three bytes kept, a block and 2^8, 2^16 or 2^24 more is read as that block
pub low_bytes_differ :
    map (λ (width : ℕ). map (λ (b : ℕ). both (low_bytes width) 5 3 (record_of 5 (plain ((256 ^ width + b) ∷ [])))) (below 9)) (1 ∷ 2 ∷ 3 ∷ [])
    ≡ replicate 3 (replicate 9 (2, 0))
unfolding records_compute number_by both low_bytes
low_bytes_differ = refl

-- beside another block it is told apart too; not beside 3, where it finds a block twice
pub low_bytes_beside :
    map (λ (b : ℕ). both (low_bytes 1) 5 4 (record_of 5 (plain (b ∷ 259 ∷ [])))) (2 ∷ 3 ∷ 4 ∷ []) ≡ (2, 0) ∷ (2, 2) ∷ (2, 0) ∷ []
unfolding records_compute number_by both low_bytes
low_bytes_beside = refl

-- the byte kept of each number once the range is tested, by its place of the four: the last is the low one
unfoldable pub bytes_kept : Bytes → ℕ → List ℕ
bytes_kept e place = map (λ (i : ℕ). get_or e (16 + 8 * i + place) 0) (below (block_count e))

-- of each block that a disk may have the last place gives the block, each other one 0
pub other_bytes_differ :
    map (λ (b : ℕ). map (bytes_kept (descriptor_block 5 (plain (b ∷ [])))) (below 4)) (below 64)
    ≡ map (λ (b : ℕ). (0 ∷ []) ∷ (0 ∷ []) ∷ (0 ∷ []) ∷ (b ∷ []) ∷ []) (below 64)
unfolding records_compute bytes_kept
other_bytes_differ = refl

-- and so of a record of eight
abbrev eight_taken : Bytes
eight_taken = journal_of nine_blocks (record_of 5 (plain (1 ∷ 2 ∷ 3 ∷ 4 ∷ 5 ∷ 6 ∷ 7 ∷ 8 ∷ [])))

pub other_bytes_of_eight :
    map (bytes_kept (journal_at nine_blocks eight_taken 0 0)) (below 4)
    ≡ replicate 8 0
    ∷ replicate 8 0
    ∷ replicate 8 0
    ∷ blocks_of nine_blocks eight_taken (record { core = 0; number = 5; position = 0; count = 8; stamp = 1 })
    ∷ []
unfolding records_compute bytes_kept
other_bytes_of_eight = refl

-- whether a block is left is not asked. Only one record alone tells it: in a full journal the descriptor at the tail comes next, and
-- its number is lower than the expected one.
unfoldable pub none_left_unasked : Asks
none_left_unasked k left e f =
    (ltb max_number k || not (has_head 1 k e), 1) ∷ (has_bad_field nine_blocks e, 2) ∷ (ltb left (block_count e + 2), 3) ∷
    (not (is_commit Numbers nine_blocks k f), 4) ∷ []

pub none_left_differs : both none_left_unasked 5 0 (record_of 5 []) ≡ (1, 3)
unfolding records_compute number_by both none_left_unasked
none_left_differs = refl

-- commits read by their lists
pub lists_differ : both (asks_in_order Lists) 5 3 (numbering (7 ∷ 7 ∷ 0 ∷ 0 ∷ 0 ∷ 0 ∷ 0 ∷ 1 ∷ [])) ≡ (4, 0)
unfolding records_compute number_by both asks_in_order
lists_differ = refl

-- a number for a core not below C accepted
unfoldable pub any_core : Asks
any_core k left e f =
    (lacks_descriptor k left e, 1) ∷ (has_bad_field nine_blocks e, 2) ∷ (ltb left (block_count e + 2), 3) ∷
    (not (has_head 2 k f && leb 1 (stamp_in f)), 4) ∷ []

pub any_core_differs : both any_core 5 3 (numbering (0 ∷ 0 ∷ 1 ∷ [])) ≡ (4, 0)
unfolding records_compute number_by both any_core
any_core_differs = refl

-- bytes 20 to 23 looked at
unfoldable pub count_looked : Asks
count_looked k left e f = asks_in_order Numbers k left e f ++ (ltb max_names (name_count f), 4) ∷ []

pub count_looked_differs : both count_looked 5 3 (ended_by (block (mark ∷ 2 ∷ 5 ∷ 0 ∷ 1 ∷ 13 ∷ 7 ∷ []))) ≡ (0, 4)
unfolding records_compute number_by both asks_in_order count_looked
count_looked_differs = refl
