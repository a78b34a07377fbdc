pub mod Excluding
pub mod Filling
pub mod Numbers
pub mod Rests
pub mod Splitting
pub mod Unpacking
