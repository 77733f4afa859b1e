pub mod Chains
pub mod Joined
pub mod Reached
pub mod Agrees
