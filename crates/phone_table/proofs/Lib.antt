pub mod Lookups
pub mod Writes
mod Counted
