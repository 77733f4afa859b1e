pub mod Ageing
pub mod Clips
pub mod Lefts
pub mod Steps
pub mod Theorem
