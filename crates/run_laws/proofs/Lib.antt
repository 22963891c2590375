mod OwnEntries
mod PhoneRuns
mod Refusals
mod ServiceHistories
pub mod RunHistories
mod ServiceRuns
pub mod LawfulRuns
