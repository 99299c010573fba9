pub mod Numbers
pub mod Row
pub mod Grammar
pub mod Calls
