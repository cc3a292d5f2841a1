pub mod Numbers
pub mod Uses
pub mod Words
pub mod Command
pub mod View
