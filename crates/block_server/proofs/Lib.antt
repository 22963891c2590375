mod LawfulBlocks
pub mod StepsFit
mod BlockExamples
pub mod Windows
