pub mod Clients
pub mod Lookups
pub mod Plains
pub mod Seen
