pub mod Conversion
pub mod Theorems
