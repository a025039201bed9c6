pub mod Release
pub mod Subset
pub mod Resolver
pub mod Internal
