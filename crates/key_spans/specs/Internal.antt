pub mod Ends
pub mod Kinds
pub mod Pieces
pub mod Places
pub mod Sets
