pub mod Outputs
pub mod OutputsLaws
