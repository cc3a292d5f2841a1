pub mod Calls
pub mod Faults
pub mod MemorySink
pub mod MemorySource
pub mod MemoryStore
pub mod Moments
pub mod StdSink
pub mod StdSource
