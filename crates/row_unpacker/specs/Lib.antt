pub mod View
pub mod Search
pub mod Item
pub mod Row
