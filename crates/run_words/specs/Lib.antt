pub mod Counted
pub mod AlikeStates
pub mod Constants
pub mod Stamped
pub mod Kernel
pub mod RunWords
pub mod Reached
pub mod Alike
