pub mod Order
pub mod Tasks
pub mod Nodes
pub mod Whole
pub mod Leaves
