pub mod Table
pub mod RefusedLaws
pub mod TableLaws
