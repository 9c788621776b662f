pub mod Plan
pub mod Tables
pub mod Held
pub mod Short
pub mod Forms
