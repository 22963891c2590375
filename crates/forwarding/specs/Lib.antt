pub mod Forwarding
pub mod Routes
