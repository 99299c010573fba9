pub mod Laws
pub mod GatherTurn
pub mod WellSizedLaws
