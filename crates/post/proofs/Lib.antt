pub mod Elements
pub mod Rings
pub mod Pairs
pub mod Turns
pub mod Posts
pub mod Runs
