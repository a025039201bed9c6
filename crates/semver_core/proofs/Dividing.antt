pub mod BarLemmas
pub mod BarsDivide
