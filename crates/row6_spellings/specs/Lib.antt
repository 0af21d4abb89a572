pub mod Spellings
pub mod SomeLaws
pub mod SpellingsLaws
