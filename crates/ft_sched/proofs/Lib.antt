pub mod LastMet
pub mod Kept
pub mod Listed
pub mod Passing
pub mod Laying
pub mod Reached
pub mod Whole
pub mod UpTo
