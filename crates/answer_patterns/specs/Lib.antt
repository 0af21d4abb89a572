pub mod Whole
pub mod Passes
pub mod Cut
