pub mod Table
pub mod Least
pub mod View
