pub mod Rings
pub mod States
pub mod Steps
pub mod Flights
pub mod Causes
