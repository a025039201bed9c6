pub mod RunLemmas
pub mod RunsDivide
pub mod MeaningLaw
