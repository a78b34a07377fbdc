pub mod Ends
pub mod Walks
pub mod Fits
pub mod Keeps
pub mod Returning
pub mod Files
