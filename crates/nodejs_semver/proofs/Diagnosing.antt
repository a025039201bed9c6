pub mod Flaws
pub mod OneFlaw
pub mod IgnoredParts
pub mod Without
