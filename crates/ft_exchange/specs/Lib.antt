pub mod Exchange
pub mod Scheduled
pub mod Alike
