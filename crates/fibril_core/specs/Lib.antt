pub mod Fibrils
pub mod Conns
pub mod FibrilLaws
pub mod LiveFibrils
pub mod ConnLaws
pub mod ConnIndex
