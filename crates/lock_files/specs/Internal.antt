pub mod Collected
pub mod Nesting
pub mod Patterns
pub mod Places
