mod Spent
pub mod Turned
mod Costs
