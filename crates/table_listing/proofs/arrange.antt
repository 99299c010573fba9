pub mod Laws
pub mod ArrangeLaws
pub mod PickTurn
pub mod WayLaws
pub mod PickEachLaws
