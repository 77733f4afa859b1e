pub mod Clipped
pub mod ClippedFacts
pub mod Holders
pub mod Joined
pub mod Made
pub mod Pairing
pub mod RunFacts
pub mod Walks
