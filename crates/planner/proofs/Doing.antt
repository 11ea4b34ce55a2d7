-- The run that empties the journals: each choice is carried out, and the plan is met.
pub mod RunLaws
pub mod Answered
pub mod FirstCore
pub mod OldestOnes
pub mod Lowering
pub mod StoreStep
pub mod CloseStep
pub mod CheckpointStep
pub mod Choosing
pub mod PlanLaws
pub mod PlanUp
pub mod Theorem
