pub mod Held
pub mod Laws
pub mod Settled
pub mod Taken
