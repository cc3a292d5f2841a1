mod Beginnings
mod Begun
mod Classes
mod Counts
mod Determined
mod Digits
pub mod Ends
mod Escapes
mod FaultCodes
mod Floats
mod Keywords
mod LastTokens
mod Leading
mod Nestings
mod Only
mod Opened
mod OpenBrackets
mod Tested
mod Parted
mod Parting
mod PathCuts
pub mod HolePlaces
pub mod Placed
mod Quotes
mod Readied
mod Respelled
mod Runs
mod SegmentLemmas
mod Spelled
mod Starts
mod Stepped
mod Stopping
mod Strays
pub mod Taking
mod Told
mod Unique
mod Walks
