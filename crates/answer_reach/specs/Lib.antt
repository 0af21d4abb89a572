pub mod Index
pub mod Given
