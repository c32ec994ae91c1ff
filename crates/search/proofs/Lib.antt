pub mod Indexes
pub mod Halving
pub mod Descents
