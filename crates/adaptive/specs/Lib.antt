pub mod Number
pub mod Calls
pub mod Theorems
pub mod Gather
