pub mod Builds
pub mod Coerced
pub mod Lists
pub mod Versions
