pub mod Refusals
pub mod Tags
pub mod Dealing
pub mod Hands
pub mod Laws
pub mod Lists
