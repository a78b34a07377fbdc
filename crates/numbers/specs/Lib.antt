pub mod Signed
pub mod Values
pub mod Laws
