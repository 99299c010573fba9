pub mod Putting
pub mod Size
pub mod Step
pub mod Written
