pub mod Tables
pub mod TablesLaws
