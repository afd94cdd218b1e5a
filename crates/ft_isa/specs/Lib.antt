pub mod Words
pub mod Operations
pub mod Registers
pub mod BasicTypes
pub mod Instructions
pub mod Pending
pub mod PlanText
pub mod Reading
