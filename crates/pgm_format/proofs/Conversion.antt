pub mod Call
pub mod Rows
