pub mod Argument
pub mod Number
pub mod Option
pub mod Prefix
