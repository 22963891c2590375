pub mod PhoneSteps
pub mod PhoneRequests
mod PhoneKills
pub mod PhoneEvents
pub mod PhoneExamples
