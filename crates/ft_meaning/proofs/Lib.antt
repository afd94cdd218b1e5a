pub mod Longer
pub mod Sinks
pub mod Loops
pub mod Composed
