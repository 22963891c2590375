pub mod Lookups
pub mod Searches
pub mod Answers
pub mod Sound
mod Rising
mod Grouped
