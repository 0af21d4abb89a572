pub mod Weights
pub mod Accounted
pub mod Bounded
pub mod Local
pub mod Fields
pub mod Owners
