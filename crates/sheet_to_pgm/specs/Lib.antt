pub mod LineShape
pub mod Written
