pub mod Lists
pub mod Sequences
pub mod Steps
