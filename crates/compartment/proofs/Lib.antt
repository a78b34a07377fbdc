pub mod Entries
pub mod Whole
pub mod Taken
