pub mod Found
pub mod Overriding
pub mod Sources
