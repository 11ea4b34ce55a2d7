-- Why the figure is met, and why the code's answer is the plan.
pub mod Transactions
pub mod Doing
pub mod CodeLaws
