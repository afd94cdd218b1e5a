pub mod Found
pub mod InPlace
pub mod Ends
pub mod Known
pub mod Sections
pub mod Viewed
