pub mod Firsts
pub mod Routed
pub mod Rows
