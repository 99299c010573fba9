pub mod Laws
pub mod PutNumbersTurn
