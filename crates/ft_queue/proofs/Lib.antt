pub mod PendingLemmas
pub mod SameLists
