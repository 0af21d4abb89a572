pub mod Flags
pub mod FlagsLaws
pub mod LayoutsLaws
pub mod MarkedLaws
