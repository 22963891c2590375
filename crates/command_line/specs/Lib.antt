pub mod Answer
pub mod Check
pub mod Command
pub mod Due
pub mod LawfulRun
pub mod Status
pub mod Summary
