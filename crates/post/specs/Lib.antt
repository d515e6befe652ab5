pub mod Queues
pub mod Runs
pub mod Memory
pub mod Records
pub mod Places
pub mod Laws
