pub mod Keeping
pub mod Lengths
mod Pooled
