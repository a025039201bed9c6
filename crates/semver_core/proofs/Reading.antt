pub mod Steps
pub mod Bytes
pub mod Numbers
pub mod IdentifierLists
pub mod Qualifiers
pub mod Boundaries
