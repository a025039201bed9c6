pub mod Laws
pub mod LastNumber
pub mod Memory
pub mod Texts
