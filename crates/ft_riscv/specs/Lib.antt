pub mod Fields
pub mod Table
pub mod Results
pub mod Memory
pub mod Step
pub mod Unambiguous
