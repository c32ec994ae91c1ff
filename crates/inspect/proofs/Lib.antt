pub mod Decisions
pub mod Words
pub mod Ups
