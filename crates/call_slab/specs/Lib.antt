pub mod Calls
pub mod Change
pub mod Index
pub mod Lends
pub mod Links
pub mod Slots
