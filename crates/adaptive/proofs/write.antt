pub mod LaterBytesTurn
pub mod PutBytesTurn
pub mod WriteBytesLaws
