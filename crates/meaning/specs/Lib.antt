pub mod Program
pub mod Rows
pub mod Output
