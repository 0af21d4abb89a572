pub mod Lines
pub mod Passed
pub mod LineLaws
pub mod BareLaws
pub mod TypeLaws
pub mod DeclLaws
pub mod BodyLaws
pub mod PassedLaws
