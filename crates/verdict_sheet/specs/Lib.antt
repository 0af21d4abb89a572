pub mod Upto
pub mod PatchLaws
pub mod LineLaws
pub mod UptoLaws
pub mod StepLaws
