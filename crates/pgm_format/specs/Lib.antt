pub mod Header
pub mod Samples
pub mod Shape
pub mod Conversion
pub mod Cases
