pub mod Chains
pub mod Ending
pub mod Keeping
pub mod Stack
