pub mod Bytes
pub mod Widths
pub mod Elements
pub mod Makes
pub mod Laws
pub mod Cuts
