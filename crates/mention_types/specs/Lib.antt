pub mod Mentions
pub mod NamesLaws
pub mod AddsLaws
