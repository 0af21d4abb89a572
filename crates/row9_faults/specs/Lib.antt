pub mod Closing
pub mod Attempts
pub mod AttemptsLaws
pub mod Rows9Laws
