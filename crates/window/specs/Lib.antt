pub mod Views
pub mod Windows
