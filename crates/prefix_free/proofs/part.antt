pub mod ShortestTurn
pub mod SplitExchange
pub mod SplitTurn
