pub mod Marks
pub mod Promise
pub mod Steps
