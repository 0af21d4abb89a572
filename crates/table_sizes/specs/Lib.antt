pub mod Sizing
pub mod SizingLaws
pub mod Filling
pub mod FillingLaws
