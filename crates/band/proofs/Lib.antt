pub mod Packing
pub mod Storing
