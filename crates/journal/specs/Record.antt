-- The fields of a descriptor read, and a block read as a commit.
use Rattle.std.specs.Prelude.{ℕ, cond, Option, Some, None}
use Rattle.model.specs.Bytes.{Bytes}
use Rattle.model.specs.Layout.{block_count, is_commit, stamp_in}
use Rattle.model.specs.JournalEnds.{has_bad_field}
use Rattle.model.specs.declared.Shape.{Shape}
use Rattle.model.specs.declared.CommitLayout.{CommitLayout}

unfoldable pub descriptor_of : Shape → Bytes → Option ℕ
descriptor_of s b = cond (has_bad_field s b) None (Some (block_count b))

unfoldable pub commit_of : CommitLayout → Shape → ℕ → Bytes → Option ℕ
commit_of y s k b = cond (is_commit y s k b) (Some (stamp_in b)) None
