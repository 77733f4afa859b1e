pub mod Counts
pub mod Fills
pub mod Moves
pub mod Replayed
pub mod Steps
