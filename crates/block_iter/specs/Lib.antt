pub mod Cursors
pub mod Replays
pub mod Walks
