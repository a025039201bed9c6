pub mod Alike
pub mod FlawPlaces
pub mod Grammar
pub mod Rows
