pub mod Faultless
pub mod Found
