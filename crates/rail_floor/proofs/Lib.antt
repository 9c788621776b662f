pub mod Indexed
pub mod Searched
