pub mod Blocks
pub mod BlockLaw
pub mod BlockHistory
pub mod WindowLaws
