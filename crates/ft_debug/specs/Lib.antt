pub mod Sessions
pub mod Ends
pub mod Kept
pub mod Reserved
pub mod Places
pub mod Inside
