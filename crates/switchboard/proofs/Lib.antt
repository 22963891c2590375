pub mod Lookups
pub mod Rows
pub mod Usable
mod Loops
pub mod Soundness
pub mod MarkChanges
pub mod SoundMemory
pub mod SoundStates
pub mod SoundJoins
pub mod SoundData
pub mod SoundShare
pub mod Counting
mod Recounting
pub mod Repeats
pub mod Histories
pub mod Keepers
pub mod KeptCalls
mod KeptRows
pub mod Keeping
mod Endings
mod Inner
pub mod Switched
pub mod Turns
mod Live
