pub mod Chains
pub mod Blocks
pub mod Cells
