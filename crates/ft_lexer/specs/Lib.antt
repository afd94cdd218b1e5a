pub mod Numeral
pub mod Bytes
pub mod Scan
pub mod Placed
pub mod Left
pub mod Ends
