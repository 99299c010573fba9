pub mod Laws
pub mod Remaining
