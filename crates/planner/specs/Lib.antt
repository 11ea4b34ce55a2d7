-- Paper 02, (e): how much work until the journals are empty, in which order, and what is claimed of both; the plan as the code answers it,
-- and how the code finds it.
pub mod Plan
pub mod Emptying
pub mod Met
pub mod Result
pub mod Works
pub mod Insertion
