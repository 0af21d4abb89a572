pub mod Cty
pub mod Decl
pub mod Erasure
pub mod Reach
pub mod Layout
pub mod Resolve
pub mod Run
pub mod Names
