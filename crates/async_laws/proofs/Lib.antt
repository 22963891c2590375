mod AnswerFacts
mod ExchangeFacts
mod ExchangePlans
mod FibrilFacts
mod WakeOrders
mod WakePools
mod WakeConns
mod WakeSlots
mod WakeCalls
mod WakeSessions
mod WakeAnswers
mod WakeFibrils
mod NoLostWakes
mod OrderLaws
mod HeldCalls
mod StepsFit
pub mod EventsFit
pub mod OwnEntries
mod Deliveries
pub mod Linking
pub mod NewTasks
pub mod QuietTasks
mod WakeExamples
mod KeptOnce
mod TakenCalls
mod LimitLaws
mod LawExamples
