pub mod Aims
pub mod Edits
pub mod Happenings
pub mod Creation
