pub mod Digits
pub mod Prefixes
