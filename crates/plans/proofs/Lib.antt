pub mod Facts
pub mod Formed
pub mod Room
pub mod Routes
pub mod Tabled
pub mod Writing
