pub mod Shape
pub mod Ev
pub mod Fuel
pub mod Answer
pub mod Scratch
pub mod Nodes
pub mod Call
