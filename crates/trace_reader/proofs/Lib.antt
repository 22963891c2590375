mod Parts
mod Lines
mod Again
mod Pieces
mod Trees
pub mod Joined
pub mod ReadAgain
pub mod Only
mod Ranges
mod Words
mod Numbers
