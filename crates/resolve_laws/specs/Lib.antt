pub mod Resolver
pub mod ResolverLaws
