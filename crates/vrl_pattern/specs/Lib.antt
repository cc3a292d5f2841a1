pub mod Built
pub mod Groups
pub mod Malformed
pub mod Marks
pub mod Matches
pub mod Places
pub mod Verdict
