pub mod Bounded
pub mod Table
pub mod TableRows
pub mod TableReadings
