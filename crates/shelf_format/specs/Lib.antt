pub mod Shelf
pub mod Calls
pub mod Run
