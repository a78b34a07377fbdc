pub mod Entries
pub mod Lengths
pub mod Going
pub mod Filing
pub mod Placing
