pub mod Registers
pub mod LastPlaces
pub mod Inside
pub mod Waiting
pub mod Arranged
pub mod UpTo
