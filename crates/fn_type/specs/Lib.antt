pub mod Is
pub mod IsEmpty
pub mod IsNullish
pub mod Laws
pub mod Only
pub mod ToBool
pub mod ToInt
pub mod ToString
