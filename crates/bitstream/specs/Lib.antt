pub mod Bits
pub mod Memory
pub mod Msb
pub mod MsbWriter
pub mod Writer
