pub mod Banded
pub mod Short
