pub mod Edges
pub mod EdgesLaws
