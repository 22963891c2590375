mod Keyed
pub mod Live
mod Pages
