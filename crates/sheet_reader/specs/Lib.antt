pub mod Answers
pub mod Leaves
pub mod Packed
pub mod Row
