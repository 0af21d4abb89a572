pub mod Header
pub mod LettersLaws
pub mod OrderLaws
