pub mod Starred
pub mod Unerased
pub mod ClaimsLaws
pub mod Claims
pub mod Base
pub mod CutTest
pub mod Instance
