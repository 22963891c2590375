mod Arguments
pub mod DraftSteps
pub mod Lines
mod NumberNames
pub mod Places
pub mod Soundness
mod TaskKinds
pub mod Words
pub mod Parts
mod WordExamples
mod OperationExamples
mod Verbs
pub mod Faultless
pub mod NearPlaces
mod LastLines
mod FourBytes
mod HexBytes
mod Steps
mod TaskHeads
mod OperationKinds
