pub mod Choices
pub mod Common
pub mod Dotted
pub mod Failures
pub mod Keeps
pub mod Pieces
