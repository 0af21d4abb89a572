pub mod Newtypes
pub mod NewtypesLaws
