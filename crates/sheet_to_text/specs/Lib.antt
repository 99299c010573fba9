pub mod RowRange
pub mod SheetText
