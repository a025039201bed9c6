pub mod Diagnosis
pub mod Json
pub mod Internal
pub mod Printing
pub mod Ranges
pub mod Text
pub mod Words
-- what public clauses cite of the core
pub use Rattle.semver_core.specs.Cuts
pub use Rattle.semver_core.specs.Failures
pub use Rattle.semver_core.specs.Lists
pub use Rattle.semver_core.specs.Values.Order
pub use Rattle.semver_core.specs.Values.Versions
pub use Rattle.semver_core.specs.Printing.Text as VersionPrinting
pub use Rattle.semver_core.specs.Text.Parsing
pub use Rattle.semver_core.specs.Text.Identifiers
