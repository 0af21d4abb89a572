pub mod IndexLaws
