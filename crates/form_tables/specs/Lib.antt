pub mod Bounds
pub mod Bounded
