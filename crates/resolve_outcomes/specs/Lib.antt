pub mod Leads
pub mod Outcome
pub mod Answer
pub mod Scratch
