pub mod Zeros
pub mod Deals
pub mod Draws
pub mod Homes
