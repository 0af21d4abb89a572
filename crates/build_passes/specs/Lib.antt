pub mod Passes
pub mod PassesLaws
