mod Delivered
pub mod Filled
mod Kept
mod Named
mod Listed
mod Present
mod Rising
pub mod Served
mod Waits
pub mod Bounds
