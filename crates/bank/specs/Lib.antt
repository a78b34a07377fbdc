pub mod Banks
pub mod Registers
