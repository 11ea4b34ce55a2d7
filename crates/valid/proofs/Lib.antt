-- Laws of sets of records by counts, each once: which transactions of the model's lists they are, and what shrinking leaves.
pub mod Sets
pub mod Names
pub mod Lowering
pub mod ShrinkLaws
pub mod Model
pub mod Commands
