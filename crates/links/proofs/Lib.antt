pub mod Sums
pub mod Walking
