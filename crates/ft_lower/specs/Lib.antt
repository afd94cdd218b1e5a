pub mod Flow
pub mod Size
pub mod Well
pub mod Cutting
pub mod Lowered
pub mod Lowers
