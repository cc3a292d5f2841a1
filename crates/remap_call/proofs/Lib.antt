pub mod Accepting
pub mod AnswerLemmas
pub mod Calls
pub mod Loads
pub mod OneAnswer
pub mod Requests
pub mod RunSound
pub mod ToldOnce
