pub mod Access
pub mod Lasting
pub mod Fates
pub mod Counters
pub mod Changed
pub mod Kept
