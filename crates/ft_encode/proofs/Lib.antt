pub mod Puts
mod Sections
pub mod Fitting
mod Spelled
