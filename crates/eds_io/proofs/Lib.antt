pub mod Begins
pub mod Pieces
pub mod Coming
