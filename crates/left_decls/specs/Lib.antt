pub mod Heads
pub mod HeadsLaws
pub mod Decls
pub mod DeclsLaws
