pub mod Colour
pub mod Extent
pub mod Grid
pub mod View
pub mod Putting
pub mod Theorems
