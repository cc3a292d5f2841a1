pub mod Pieces
pub mod Comments
pub mod Layout
pub mod Apart
pub mod Unplaced
pub mod Formatting
pub mod Laws
pub mod Writing
