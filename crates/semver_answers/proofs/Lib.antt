pub mod Steps
pub mod Firsts
pub mod Behind
pub mod Pairs
pub mod Replies
pub mod Growth
pub mod Asked
pub mod Bytes
