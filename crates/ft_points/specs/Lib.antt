pub mod Certified
pub mod Points
