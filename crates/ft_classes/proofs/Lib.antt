pub mod Classes
pub mod CounterVerdicts
pub mod Whole
