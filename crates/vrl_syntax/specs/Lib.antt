pub mod Calls
pub mod ErrorAssignments
pub mod Limits
pub mod Regexes
pub mod Stores
pub mod Tree
pub mod View
pub mod Written
