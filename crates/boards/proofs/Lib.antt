pub mod Holding
pub mod Granting
pub mod Calling
pub mod Emptiness
