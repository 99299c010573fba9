pub mod Known
pub mod Header
pub mod Item
pub mod Field
pub mod Encode
pub mod Write
