pub mod Internal
pub mod Ranges
pub mod Spans
