pub mod Abs
pub mod FormatInt
pub mod Laws
pub mod Mod
pub mod Numeral
pub mod ParseInt
