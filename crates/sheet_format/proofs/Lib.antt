pub mod Stream
pub mod Theorems
