pub mod Comparing
mod Counts
pub mod Digits
pub mod Lasts
mod Marks
mod Pairs
mod Parts
pub mod Texts
mod TextExamples
