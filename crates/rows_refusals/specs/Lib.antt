pub mod Rows
pub mod CellLaws
pub mod RowsLaws
pub mod PassedLaws
