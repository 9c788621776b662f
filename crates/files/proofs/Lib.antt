pub mod Carried
pub mod Celled
pub mod Front
pub mod Legged
pub mod Listed
pub mod Numbered
pub mod Whole
