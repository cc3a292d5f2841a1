pub mod Faults
pub mod Line
pub mod Drafts
pub mod Tokens
pub mod Held
