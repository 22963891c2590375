pub mod EndStart
