pub mod Back
pub mod Certificates
pub mod Aims
