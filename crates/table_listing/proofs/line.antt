pub mod Laws
pub mod PutBitsTurn
