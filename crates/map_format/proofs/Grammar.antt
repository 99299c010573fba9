pub mod Exact
pub mod Read
pub mod Stands
