pub mod Returns
pub mod Padded
