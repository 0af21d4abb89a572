pub mod Sites
pub mod SitesLaws
pub mod Owners
pub mod OwnersLaws
