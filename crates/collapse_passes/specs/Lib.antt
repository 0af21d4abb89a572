pub mod Passes
pub mod BodyLaws
pub mod PassesLaws
