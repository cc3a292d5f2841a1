pub mod Status
pub mod Answer
pub mod Call
