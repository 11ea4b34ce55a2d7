-- The valid set as a count for each core. By paper 02, (c), it is a beginning of each core's records, so a name is met exactly if its number
-- less the tail's is below its core's count; a round lowers each count to the first record that is not met.
use Rattle.std.specs.Prelude.{ℕ, ◌+◌, ◌-◌, ◌≤◌, ◌<◌, min, ◌≡◌, List, Bool, true, false, cond, ◌&&◌, ◌||◌, get_or, ltb, eqb}
use Rattle.model.specs.Limits.{max_cores, max_names}
use Rattle.model.specs.Lists.{below, total}
use Rattle.model.specs.Bytes.{Bytes}
use Rattle.model.specs.Card.{new_name, new_tail}
use Rattle.model.specs.Layout.{pair_at, name_count, number_named}
use Rattle.model.specs.Journal.{journal_at}
use Rattle.model.specs.declared.Shape.{Shape}
use Rattle.model.specs.declared.Tail.{Tail}
use Rattle.model.specs.declared.CommitLayout.{CommitLayout}
use Rattle.model.specs.declared.CommitLayout.TheVariants.{Lists, Numbers}
use Rattle.layout.specs.Loops.{every}
use Rattle.journal.specs.declared.extents.Extent.{Extent}
use Rattle.journal.specs.Records.{extent_at}

-- core c's tail number, of the eight that ks holds
unfoldable pub tail_number : List ℕ → ℕ → ℕ
tail_number ks c = cond (ltb c 8) (get_or ks c 0) 0

-- tails with these numbers
unfoldable pub numbered : List ℕ → ℕ → Tail
numbered ks c = new_tail (tail_number ks c) 0

-- transaction k of core c lies below the core's tail number, or is one of those that count
unfoldable pub count_met : Shape → List ℕ → List ℕ → ℕ → ℕ → Bool
count_met s ks count c k = ltb k (tail_number ks c) || (ltb c s.cores && ltb (k - tail_number ks c) (get_or count c 0))

-- the i-th name that a commit lists is met
unfoldable pub name_met : Shape → List ℕ → List ℕ → Bytes → ℕ → Bool
name_met s ks count f i = count_met s ks count (pair_at new_name f 24 i).core (pair_at new_name f 24 i).number

-- the number that a commit has for core c is met; where it has none, nothing is asked for
unfoldable pub number_met : Shape → List ℕ → List ℕ → Bytes → ℕ → Bool
number_met s ks count f c = eqb (number_named f c) 0 || count_met s ks count c (number_named f c)

-- each transaction that a commit names is met
unfoldable pub commit_met : CommitLayout → Shape → List ℕ → List ℕ → Bytes → Bool
commit_met Lists s ks count f = every (min (name_count f) max_names) (name_met s ks count f)
commit_met Numbers s ks count f = every max_cores (number_met s ks count f)

-- each that core c's record with extent x names is met
unfoldable pub record_met : CommitLayout → Shape → Bytes → List ℕ → List ℕ → ℕ → Extent → Bool
record_met y s d ks count c x = commit_met y s ks count (journal_at s d c (x.position + (x.count + 1)))

-- of n, the first m meet the test, and the next one does not
pub record Begins (p : ℕ → Bool) (n m : ℕ) : Type 0 where
  pub few : m ≤ n
  pub met : every m p ≡ true
  pub unmet : m < n → p m ≡ false

-- core c's count after a round, of n records from place a on; xs are the extents
unfoldable pub LoweredTo : CommitLayout → Shape → Bytes → List ℕ → List Extent → List ℕ → ℕ → ℕ → ℕ → ℕ → Type 0
LoweredTo y s d ks xs count c a n m = Begins (λ (j : ℕ). record_met y s d ks count c (extent_at xs (a + j))) n m

-- the counts after a round
unfoldable pub Lowered : CommitLayout → Shape → Bytes → List ℕ → List Extent → List ℕ → List ℕ → List ℕ → Type 0
Lowered y s d ks xs start before after =
    (c : ℕ) → c < s.cores → LoweredTo y s d ks xs before c (get_or start c 0) (get_or before c 0) (get_or after c 0)

-- how many there are in all
unfoldable pub total_count : Shape → List ℕ → ℕ
total_count s count = total (λ (c : ℕ). get_or count c 0) (below s.cores)
