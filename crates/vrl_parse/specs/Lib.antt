pub mod Descent
pub mod FirstWords
pub mod Grammar
pub mod Reading
