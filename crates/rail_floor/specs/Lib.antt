pub mod Rails
pub mod Held
pub mod Laws
pub mod Ordered
