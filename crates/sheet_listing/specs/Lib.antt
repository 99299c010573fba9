pub mod Line
pub mod Listed
pub mod Listing
pub mod Turns
