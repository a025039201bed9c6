pub mod Numbers
pub mod Order
pub mod Reading
pub mod Texts
pub mod Checking
