pub mod AnyAboveTurn
pub mod PixelAtLaws
