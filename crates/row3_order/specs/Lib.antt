pub mod DueLaws
pub mod StepLaws
pub mod OrderLaws
