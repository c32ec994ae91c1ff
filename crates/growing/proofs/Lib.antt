pub mod Puts
pub mod Bodies
pub mod Steps
pub mod Counts
pub mod Gaps
pub mod Climbs
pub mod Settled
