pub mod Bounds
mod ConnIndex
pub mod Connections
mod Counts
pub mod Firsts
mod InQueue
pub mod Live
pub mod Orders
pub mod Places
mod Queues
mod Rebuilt
pub mod Searches
pub mod Waking
