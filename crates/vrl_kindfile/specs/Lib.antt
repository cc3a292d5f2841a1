pub mod Descriptions
pub mod Faults
pub mod Files
pub mod Laws
pub mod Lines
pub mod Pointer
pub mod Shapes
pub mod Walk
