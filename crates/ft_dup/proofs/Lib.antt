pub mod WellFormedBlocks
pub mod Stretches
pub mod Pairs
pub mod FlowSteps
pub mod Laying
pub mod Following
pub mod WholeRuns
