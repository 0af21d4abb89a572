pub mod Ctors
pub mod CtorsLaws
