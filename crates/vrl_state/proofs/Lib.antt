pub mod Behind
mod Beside
pub mod Bodies
mod Cutting
pub mod Finite
pub mod Fitting
mod JoinedScopes
pub mod Limits
pub mod Listed
mod Parts
mod Replacing
mod Turning
mod Versions
