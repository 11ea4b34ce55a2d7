-- The fields of a line as the code holds them: six at most; and the records of a disk, of which the n-th is shown.
use Rattle.std.specs.Prelude.{ℕ, ◌+◌, ◌-◌, ◌≤◌, ◌<◌, ◌≡◌, List, [], ◌∷◌, Bool, cond, get_or, Option, None, Some, MatchOption}
use Rattle.model.specs.Bytes.{Bytes, bytes}
use Rattle.model.specs.Layout.{cores_named}
use Rattle.model.specs.Journal.{names_of}
use Rattle.model.specs.Recovery.{tail_on}
use Rattle.model.specs.JournalPage.{space, numeral, word, transaction_fields, refusal_fields}
use Rattle.model.specs.JournalPage as page
use Rattle.model.specs.declared.Shape.{Shape}
use Rattle.model.specs.declared.Tail.{Tail}
use Rattle.model.specs.declared.CommitLayout.{CommitLayout}
use Rattle.model.specs.declared.Committed.{Committed}
use Rattle.journal.specs.Records.{tail_for}
use Rattle.valid.specs.Sets.{total_count}
use Rattle.journal_page.specs.declared.line.Field.{Field}
use Rattle.journal_page.specs.declared.line.Shown.{Shown}
use Rattle.journal_page.specs.declared.line.Shown.TheVariants.{Number, Word}

-- the lines of the longest page: the head, twelve transactions and an end of each of eight cores
abbrev pub max_lines : ℕ
max_lines = 105

abbrev pub new_field : ℕ → ℕ → Shown → Field
new_field first width shown = record { first = first; width = width; shown = shown }

-- a number set right, or a word: the letters are the bytes of the value
unfoldable pub field_in : Field → page.Field
field_in f = elim f.shown [ Number n ↦ numeral f.first f.width n | Word n ↦ word f.first (bytes f.width n) ]

unfoldable pub fields_in : List (Option Field) → List page.Field
fields_in [] = []
fields_in (None ∷ fs) = fields_in fs
fields_in (Some f ∷ fs) = field_in f ∷ fields_in fs

-- what a field shows at one of its columns
unfoldable pub field_byte : page.Field → ℕ → ℕ
field_byte f k = get_or f.text (k - f.first) space

-- a transaction with another number: a record's is counted from its core's tail
abbrev pub with_number : ℕ → Committed → Committed
with_number k e = record { core = e.core; number = k; position = e.position; count = e.count; stamp = e.stamp }

-- the fields of a transaction, with the cores that its commit names counted
unfoldable pub fields_of : CommitLayout → Shape → Bytes → Bool → Committed → List page.Field
fields_of y s d kept e = transaction_fields kept (cores_named (names_of y s d e)) e

-- the letters of the word kept, or of the word left
abbrev pub letters_of : Bool → ℕ
letters_of kept = cond kept 0x6B657074 0x6C656674

-- line i of a page that has one line, of a refusal
abbrev pub refused_line : ℕ → ℕ → List page.Field
refused_line n i = get_or (refusal_fields n ∷ []) i []

-- ---- the records of a disk
-- tails of its master, for the cores that it has
unfoldable pub TailsOn : Shape → Bytes → List Tail → Type 0
TailsOn s d ts = (c : ℕ) → c < s.cores → tail_for ts c ≡ tail_on d c

-- the n-th of them, from 0, is one of core c; none where there are not so many
abbrev pub IsNth : Shape → List ℕ → List ℕ → ℕ → Option ℕ → Type 0
IsNth s start count n r = MatchOption r (total_count s count ≤ n) (λ c. (c < s.cores) × (get_or start c 0 ≤ n) × (n < get_or start c 0 + get_or count c 0))
