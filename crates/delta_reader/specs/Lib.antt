pub mod Offset
pub mod Flags
pub mod Puts
pub mod Step
pub mod Walk
pub mod Stretch
