pub mod Ranks
pub mod RanksLaws
pub mod Returning
pub mod ReturningLaws
pub mod RowLaws
