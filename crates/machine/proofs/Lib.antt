pub mod Parts
pub mod Admitted
pub mod Ran
pub mod Pieces
pub mod Keeping
pub mod Cells
pub mod Separating
