pub mod Built
pub mod BuiltLaws
