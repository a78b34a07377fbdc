pub mod Seeing
pub mod Apart
pub mod Insides
