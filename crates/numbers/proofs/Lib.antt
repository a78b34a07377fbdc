pub mod Low
pub mod Bounds
pub mod Dividing
pub mod Registers
pub mod Halves
pub mod Reversing
