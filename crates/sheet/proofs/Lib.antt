pub mod FormatLaws
pub mod ListLaws
pub mod FirstLaws
pub mod LetterLaws
pub mod LineLaws
pub mod SheetLaws
pub mod OutputLaws
