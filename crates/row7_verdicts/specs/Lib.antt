pub mod VerdictLines
pub mod VerdictLinesLaws
pub mod Verdicts
pub mod VerdictsLaws
