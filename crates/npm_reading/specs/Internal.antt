pub mod Alternatives
pub mod Fronts
pub mod Reads
