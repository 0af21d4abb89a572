pub mod Keys
pub mod Ways
pub mod WaysLaws
pub mod DistinctLaws
pub mod BareLaws
