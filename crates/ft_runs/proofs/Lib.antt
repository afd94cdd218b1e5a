pub mod CleanSteps
pub mod StruckSteps
