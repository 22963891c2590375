mod EventFaults
pub mod EventTasks
pub mod Faults
mod FormFaults
mod ReaderAnswers
mod Readings
mod Repeats
mod RecentSteps
pub mod SpelledCounts
pub mod StepLines
pub mod KnownTasks
pub mod ReadingExamples
mod LineByLine
mod WholeScripts
mod EventWordExamples
mod FirstLines
