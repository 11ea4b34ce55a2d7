-- Why a cut that loses stores brings back what it should, layer by layer, in the order of the argument in docs/PROOF.md.
pub mod Lost
pub mod Behind
pub mod Places
pub mod Steps
pub mod Missing
pub mod Books
pub mod Examples
