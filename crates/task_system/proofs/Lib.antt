pub mod OpenWires
mod Stepping
mod Taking
mod Bodies
mod Spawning
mod Beginning
