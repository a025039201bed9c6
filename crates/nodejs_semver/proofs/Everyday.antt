pub mod Words
pub mod Parts
pub mod Texts
pub mod Whole
