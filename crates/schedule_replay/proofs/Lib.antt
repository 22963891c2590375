pub mod GeneratedScript
mod Sending
pub mod UnderWay
