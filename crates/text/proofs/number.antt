pub mod Laws
pub mod PutDecimalLaws
