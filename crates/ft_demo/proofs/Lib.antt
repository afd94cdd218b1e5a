mod Turns
pub mod Applies
pub mod Spelled
mod Outputs
mod Tried
