pub mod Sums
pub mod Settling
pub mod Siblings
