pub mod Areas
pub mod Kept
pub mod Memory
pub mod Sound
pub mod Stores
