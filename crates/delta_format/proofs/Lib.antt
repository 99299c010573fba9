pub mod Grammar
pub mod Row
pub mod Theorems
