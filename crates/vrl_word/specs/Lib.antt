pub mod Signs
pub mod Words
