pub mod Configs
pub mod Processors
pub mod Finishing
