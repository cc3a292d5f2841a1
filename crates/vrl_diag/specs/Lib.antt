pub mod Codes
pub mod Position
pub mod Refusal
pub mod Rendering
pub mod Table
