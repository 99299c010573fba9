pub mod MeasureTurn
