pub mod Table
pub mod Rows
pub mod Reading
pub mod Texts
pub mod Scalars
