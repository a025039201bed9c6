pub mod Clauses
pub mod Accepting
pub mod Differences
pub mod Holds
pub mod Near
