pub mod IgnoredWords
pub mod Messages
pub mod VersionFlaws
