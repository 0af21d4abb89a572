pub mod Flags
pub mod FlagsLaws
