pub mod Ends
pub mod Ranges
pub mod Read
pub mod Stops
