pub mod Program
pub mod Rows
pub mod Widths
pub mod Imports
pub mod Output
pub mod Written
pub mod Numbers
pub mod Verdict
