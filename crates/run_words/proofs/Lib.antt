mod KillCounts
mod RequestCounts
mod TableStamps
mod KillStamps
mod RequestStamps
mod ServiceCounts
mod ProgramCounts
mod TurnCounts
mod AsyncKept
pub mod KeptConstants
mod Ranks
mod Renaming
mod KernelSplits
mod KernelGoingOn
pub mod RunSplits
pub mod Reaching
mod Turning
pub mod GoingOn
