pub mod LawfulRun
pub mod RunHistory
