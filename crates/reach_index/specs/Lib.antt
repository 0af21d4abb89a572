pub mod Indexing
pub mod IndexingLaws
