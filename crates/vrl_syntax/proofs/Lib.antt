mod ClosureNames
pub mod PartSizes
pub mod Walked
