mod Same
mod OneOrder
mod TurnsKept
pub mod HangupDetermined
mod WriteDetermined
mod ReceiveDetermined
mod ReceiveSo
mod TellsFirst
mod TakesSo
mod SettleDetermined
pub mod SettleSo
mod ForwardDetermined
mod ForwardSo
mod ChecksDetermined
mod CallDetermined
mod CallSo
mod MemoryDetermined
pub mod SpawnDetermined
mod AreasDetermined
mod DropDetermined
mod ShareDetermined
mod AnswerDetermined
mod AnswerSo
mod LeastSo
mod KillDetermined
mod KillSo
mod StateLaws
mod ForwardCauses
pub mod Machines
mod LawExamples
