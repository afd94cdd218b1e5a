pub mod Held
pub mod Struck
pub mod Tabulated
pub mod Runs
pub mod StepKinds
