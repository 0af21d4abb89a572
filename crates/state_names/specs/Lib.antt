pub mod KindLaws
pub mod Cells
pub mod CellsLaws
