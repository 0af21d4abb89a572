pub mod Links
pub mod LinksLaws
