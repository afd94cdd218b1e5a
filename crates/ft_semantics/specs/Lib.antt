pub mod State
pub mod Step
pub mod Strike
pub mod Run
pub mod Agrees
