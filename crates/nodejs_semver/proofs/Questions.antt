pub mod Best
pub mod Index
pub mod Least
pub mod Outside
pub mod Spans
pub mod Unions
