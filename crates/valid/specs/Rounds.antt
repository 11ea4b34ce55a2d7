-- A round and one after it.
use Rattle.std.specs.Prelude.{◌≡◌, List}
use Rattle.model.specs.declared.Committed.{Committed}
use Rattle.journal.specs.declared.extents.Extent.{Extent}
use Rattle.journal.specs.Records.{records_in}
use Rattle.valid.specs.declared.shrinking.Round.{Round}

-- the records that count before a round, with the stamps that zs has
abbrev pub counted : List Extent → Round → List Committed
counted zs r = records_in r.records.disk.shape zs r.oldest r.records.runs.start r.records.runs.count

-- two rounds look at the same disk, with the same tail numbers and the same records read: the counts alone may differ
pub record CountsAlone (a b : Round) : Type 0 where
  pub layout : b.layout ≡ a.layout
  pub oldest : b.oldest ≡ a.oldest
  pub shape : b.records.disk.shape ≡ a.records.disk.shape
  pub bytes : b.records.disk.bytes.now ≡ a.records.disk.bytes.now
  pub extents : b.records.extents.now ≡ a.records.extents.now
  pub start : b.records.runs.start ≡ a.records.runs.start
