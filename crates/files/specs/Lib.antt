pub mod Faults
pub mod Marks
pub mod Parse
pub mod Position
pub mod Written
pub mod Laws
pub mod Reading
