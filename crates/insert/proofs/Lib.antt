pub mod Targets
pub mod Needed
pub mod Ends
pub mod Settles
