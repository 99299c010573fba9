-- Document 001's lines and what is near to them, by computation: read, and written. Assumes nothing.
pub mod Calls
pub mod Read
pub mod Written
