pub mod Clipped
pub mod Judged
pub mod Verdict
