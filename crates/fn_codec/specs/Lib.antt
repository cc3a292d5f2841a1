pub mod Base16
pub mod Base64
pub mod Decode
pub mod Digests
pub mod Laws
pub mod Percent
pub mod Sha2
