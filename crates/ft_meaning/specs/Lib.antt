pub mod Meaning
pub mod Lines
pub mod Ends
pub mod Begins
pub mod Fibonacci
pub mod ArrayProgram
pub mod Room
pub mod Runs
