pub mod Compared
pub mod NextLaws
pub mod Naturals
pub mod Lists
pub mod TotalOrders
