pub mod Chains
pub mod Joins
