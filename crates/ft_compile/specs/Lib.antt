pub mod StandsFor
pub mod FlowObjects
pub mod Cells
pub mod Noted
pub mod Emitted
pub mod Viewed
pub mod Laws
