pub mod Events
pub mod Lasting
pub mod Moves
pub mod Piles
