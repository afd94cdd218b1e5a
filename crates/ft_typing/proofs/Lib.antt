pub mod TypedWords
pub mod Runs
pub mod Acceptance
pub mod TypingRows
pub mod SameTables
