pub mod Call
pub mod Laws
pub mod Loading
pub mod OneAnswer
pub mod Request
