pub mod Judging
pub mod SameLaws
pub mod JudgingLaws
