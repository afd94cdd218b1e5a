pub mod Maps
pub mod Counted
pub mod NodesIn
pub mod BlockStarts
pub mod Copies
