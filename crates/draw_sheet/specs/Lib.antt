pub mod Map
pub mod Measure
pub mod View
pub mod Ahead
pub mod Drawn
pub mod Theorems
