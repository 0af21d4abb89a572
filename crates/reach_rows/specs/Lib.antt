pub mod Steps
pub mod NamesLaws
pub mod StepsLaws
