pub mod Tables
pub mod TablesLaws
pub mod Ranks
pub mod RanksLaws
pub mod LeftLaws
pub mod HeldLaws
