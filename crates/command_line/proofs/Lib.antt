mod Checking
pub mod Dues
mod LawfulTexts
pub mod Lost
mod Replaying
mod Tallies
mod Traces
