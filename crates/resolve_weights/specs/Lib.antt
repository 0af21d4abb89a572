pub mod Weigh
pub mod WeighLaws
