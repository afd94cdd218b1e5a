pub mod Judges
pub mod Within
pub mod Costs
