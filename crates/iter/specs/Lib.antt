pub mod Bare
pub mod Between
pub mod Collects
pub mod Cuts
pub mod Ranges
pub mod Runs
pub mod Steps
pub mod Yields
