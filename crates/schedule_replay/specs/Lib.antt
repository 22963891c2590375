pub mod Generator
pub mod Replay
pub mod Streaming
