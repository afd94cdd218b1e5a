pub mod Answered
mod Copied
