pub mod Deciding
pub mod Laying
pub mod Answering
pub mod Calling
