pub mod Lists
pub mod Forms
pub mod Weights
pub mod Adding
pub mod Joining
pub mod SameTerms
pub mod Numbers
pub mod Ordered
pub mod Sums
pub mod Linear
pub mod Packing
pub mod Views
pub mod Single
pub mod Limits
pub mod Walking
pub mod HeldForms
pub mod Same
pub mod Paths
pub mod Made
mod Distinct
mod First
mod Ways
pub mod Apart
pub mod Memos
pub mod Constants
