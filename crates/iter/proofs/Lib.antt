pub mod Buffers
pub mod Chains
pub mod Clocks
pub mod Covers
pub mod Passes
pub mod Spans
pub mod Worths
