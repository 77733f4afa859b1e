pub mod Faults
pub mod Ids
pub mod Kept
pub mod Kinds
pub mod Lookup
pub mod Plain
pub mod Units
pub mod Values
