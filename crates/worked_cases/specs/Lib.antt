pub mod Each
pub mod Cases
pub mod Faults
