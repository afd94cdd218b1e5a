pub mod Stretches
pub mod Restarts
