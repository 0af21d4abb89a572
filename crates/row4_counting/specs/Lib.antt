pub mod Quickly
pub mod QuicklyLaws
pub mod Walk
pub mod WalkLaws
