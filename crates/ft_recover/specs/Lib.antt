pub mod Recovery
pub mod Passing
