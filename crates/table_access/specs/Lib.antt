pub mod Tables
pub mod CellsLaws
pub mod OfSheet
