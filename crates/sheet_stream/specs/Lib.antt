pub mod Progress
pub mod Step
pub mod AcceptedRecord
