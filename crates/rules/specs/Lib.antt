pub mod Routes
pub mod Searches
