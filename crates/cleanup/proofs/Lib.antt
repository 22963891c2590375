pub mod Silence
pub mod Queues
pub mod Killing
pub mod KilledPhones
pub mod Limits
mod KillExample
pub mod KillRoom
mod SoundBoards
mod Marks
