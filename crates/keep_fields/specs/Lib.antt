pub mod Keeps
pub mod KeepsLaws
