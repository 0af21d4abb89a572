pub mod GuardLaws
pub mod ChosenLaws
pub mod LayingLaws
