pub mod Counts
pub mod Finds
pub mod Promises
pub mod Walks
