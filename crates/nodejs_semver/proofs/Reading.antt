pub mod PartialLaw
pub mod WordLaw
