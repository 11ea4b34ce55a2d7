-- Laws that the proofs of sessions cite.
pub mod RunLaws
pub mod PlanLaws
