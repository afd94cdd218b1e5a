pub mod MapLines
pub mod MapAnswers
pub mod Sound
pub mod Reads
pub mod Held
