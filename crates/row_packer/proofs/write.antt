pub mod WriteTurn
