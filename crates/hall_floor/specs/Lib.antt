pub mod Halls
pub mod Held
pub mod Laws
pub mod Fitting
pub mod Legs
pub mod Grid
