pub mod Calls
pub mod Shelf
pub mod Theorems
