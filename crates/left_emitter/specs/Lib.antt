pub mod Lines
pub mod LinesLaws
pub mod Pens
pub mod PensLaws
pub mod LaidLaws
