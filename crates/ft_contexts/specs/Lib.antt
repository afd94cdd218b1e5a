pub mod Contexts
pub mod Costs
