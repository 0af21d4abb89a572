pub mod UnusedLaws
pub mod TypeLists
pub mod TypeListsLaws
pub mod TypeLinesLaws
pub mod DeclLines
pub mod DeclLinesLaws
pub mod Ranges
pub mod RangesLaws
