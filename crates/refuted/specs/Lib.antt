-- Cards that are the model's save in one rule, and planners that are ours save in one part.
pub mod Parts
pub mod Wrong
pub mod WrongOrder
pub mod WrongNumbers
pub mod WrongPlanners
pub mod WrongRetire
pub mod WrongReport
