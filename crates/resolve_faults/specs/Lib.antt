pub mod Faults
pub mod FaultsLaws
