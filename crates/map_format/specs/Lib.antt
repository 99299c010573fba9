pub mod Calls
pub mod Cases
pub mod Choice
pub mod Grammar
pub mod Reading
pub mod Verdict
pub mod Writing
