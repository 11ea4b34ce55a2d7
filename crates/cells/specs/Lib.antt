-- The card's state in lent cells, changes of some cells, and what a command over them answers.
pub mod Cells
pub mod Sized
pub mod Changes
pub mod Answer
