pub mod Kill
pub mod Limits
pub mod KillRoom
pub mod Ending
