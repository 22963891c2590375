mod AlikeHolding
mod Bodies
mod Past
mod Orders
mod Words
pub mod Behind
mod Fronts
mod Turns
mod Alike
mod Resting
mod Paths
mod Steps
mod Stuck
mod Losses
mod Doing
mod Following
mod Ranges
pub mod Visiting
mod Rights
pub mod Resters
mod Tries
mod Runs
mod Fronted
mod Copied
