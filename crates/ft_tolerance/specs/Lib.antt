pub mod TypedState
pub mod Soundness
pub mod Alike
