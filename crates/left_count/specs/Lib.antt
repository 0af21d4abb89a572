pub mod CountLaws
pub mod Sums
pub mod SumsLaws
pub mod Counts
pub mod CountsLaws
