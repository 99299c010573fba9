pub mod Step
pub mod Taken
pub mod Walk
pub mod Theorems
