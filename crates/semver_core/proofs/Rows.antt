pub mod Differences
pub mod Texts
pub mod Increments
pub mod Printed
pub mod Whitespace
pub mod Common
