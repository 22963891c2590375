mod Calls
pub mod StepsFit
mod Entries
mod Examples
mod RegistrationLaws
mod Results
mod EndLaws
