pub mod Lists
pub mod Kept
pub mod Registers
pub mod Nodes
pub mod Spelled
pub mod Same
mod SameForms
pub mod Turns
pub mod Pairs
pub mod Costs
