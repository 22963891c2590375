pub mod Edge
pub mod Memory
pub mod Output
pub mod Stops
pub mod Stored
