pub mod Lines
pub mod Numerals
pub mod Hexadecimal
pub mod Operands
pub mod Keywords
pub mod Faulty
pub mod Commands
pub mod Faults
