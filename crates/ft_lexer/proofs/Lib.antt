pub mod ByteRuns
pub mod TokenPlaces
pub mod FitLexemes
