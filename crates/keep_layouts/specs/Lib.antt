pub mod Kept
pub mod Layouts
pub mod States
