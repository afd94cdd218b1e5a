pub mod Shape
pub mod Images
pub mod Doubles
