pub mod MapText
pub mod Scan
pub mod Held
pub mod Theorems
