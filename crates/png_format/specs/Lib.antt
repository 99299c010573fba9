pub mod Crc
pub mod Adler
pub mod Chunk
pub mod Stored
pub mod Png
pub mod Reading
pub mod Chunks
pub mod Cases
