pub mod Racked
pub mod Short
