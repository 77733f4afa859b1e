pub mod Walks
pub mod Lengths
pub mod Links
