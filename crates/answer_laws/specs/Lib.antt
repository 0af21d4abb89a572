pub mod Answer
pub mod Pass
pub mod Left
pub mod Refused
pub mod Step
pub mod Build
pub mod Split
pub mod Cut
