pub mod Any
pub mod Run
pub mod Wiring
