pub mod Numbers
pub mod Index
