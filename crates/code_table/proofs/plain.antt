pub mod PlainTableLaws
pub mod StoreTurn
