pub mod Added
mod Adding
mod Addresses
mod Around
mod Collecting
mod Completing
mod Exact
mod Items
mod Nesting
mod Npm
mod Packed
pub mod Parts
mod Paths
mod Patterns
mod Single
mod Telling
