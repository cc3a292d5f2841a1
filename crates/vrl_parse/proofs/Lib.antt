mod Ahead
mod Beginnings
mod Completions
mod Descended
mod LimitCodes
mod Numbered
mod OneEnding
mod Places
mod Scripts
mod Spelled
pub mod Ends
pub mod Loops
pub mod Steps
pub mod Walks
