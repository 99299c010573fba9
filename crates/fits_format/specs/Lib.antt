pub mod Card
pub mod Cases
pub mod Header
pub mod Heights
pub mod Image
pub mod Conversion
pub mod Theorems
