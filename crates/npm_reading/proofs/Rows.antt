pub mod Alike
pub mod Ranges
