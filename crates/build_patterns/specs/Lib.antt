pub mod Patterned
pub mod LentLaws
pub mod PatternedLaws
