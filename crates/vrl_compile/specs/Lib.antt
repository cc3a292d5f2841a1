pub mod Answer
pub mod Literals
pub mod Once
pub mod Program
pub mod Reading
pub mod Sound
pub mod SoundLaws
