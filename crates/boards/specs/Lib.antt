pub mod Refusals
pub mod Holders
pub mod Calls
pub mod Moving
pub mod Laws
