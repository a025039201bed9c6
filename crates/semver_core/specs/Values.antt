pub mod Versions
pub mod Views
pub mod Order
pub mod Triples
pub mod Memory
pub mod Gate
pub mod Spans
