pub mod Exits
pub mod Faults
pub mod Made
