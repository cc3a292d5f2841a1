pub mod Names
pub mod Present
