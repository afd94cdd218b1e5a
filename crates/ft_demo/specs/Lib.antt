pub mod Sample
pub mod Demonstrations
pub mod Shown
