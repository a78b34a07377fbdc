pub mod Areas
pub mod Grounds
pub mod Laws
pub mod Lays
pub mod Plans
