pub mod Kept
pub mod Totals
pub mod Standing
pub mod Heads
