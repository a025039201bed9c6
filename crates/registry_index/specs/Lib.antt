pub mod Bound
pub mod Lines
pub mod Queries
pub mod Searches
