pub mod Tables
mod Told
pub mod Lists
pub mod Places
pub mod KillParts
pub mod KilledCalls
mod KillOrder
pub mod KilledAreas
mod KillLaws
pub mod Methods
pub mod ReceiveLaws
pub mod PoolChanges
mod PoolSteps
mod KilledPool
mod ServedPool
mod FullPool
pub mod SpawnLaws
mod CallRoutes
mod KillRoutes
mod PhoneRoutes
pub mod ArgumentFive
pub mod OneArea
pub mod LawfulReads
pub mod LawfulWrites
pub mod DroppedAreas
pub mod LawfulAreas
pub mod LawfulData
pub mod LawfulShares
pub mod LawfulCalls
pub mod AnswerWords
pub mod HeldCalls
mod CarriedCalls
pub mod MemoryRequests
pub mod ActiveCalls
pub mod UsablePhones
mod ToldHangups
mod LawExamples
