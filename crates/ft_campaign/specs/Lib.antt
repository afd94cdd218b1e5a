pub mod FaultList
pub mod Verdicts
pub mod Texts
pub mod Campaigns
pub mod Snapshots
pub mod Follows
