pub mod Common
pub mod FlawPlaces
pub mod Grammar
pub mod Rows
pub mod VersionTexts
