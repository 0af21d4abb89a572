pub mod Own
pub mod OwnLaws
