pub mod Elements
pub mod Cuts
pub mod Digits
pub mod Gathers
pub mod Puts
pub mod Scatters
pub mod Bounds
