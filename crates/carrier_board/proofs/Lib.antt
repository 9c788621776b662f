pub mod Parting
pub mod Looking
pub mod Changing
