pub mod Index
pub mod LinesLaws
pub mod IndexLaws
pub mod WalkLaws
