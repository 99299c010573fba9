pub mod BeforeRoom
pub mod Done
pub mod Fields
pub mod Numbers
