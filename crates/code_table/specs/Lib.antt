pub mod Check
pub mod Plain
pub mod SignedLaws
pub mod Theorems
