-- Scans by computation: value fields and cards, docs/FORMAT.md's scan of two rows and its changes, and rows. Assumes nothing.
pub mod Fields
pub mod Headers
pub mod Rows
