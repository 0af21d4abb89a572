pub mod Put
pub mod Stands
