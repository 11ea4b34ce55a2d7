-- Laws of the cells: parts of lists, refusals in stages, which values fit, fields read and changed in place.
pub mod Parts
pub mod RefusalLaws
pub mod EntryLaws
pub mod FitsLaws
pub mod ReadLaws
pub mod RangeLaws
pub mod TransactionLaws
pub mod CellLaws
pub mod CoreLaws
pub mod ExactLaws
pub mod MeetLaws
pub mod TailLaws
pub mod PhaseLaws
