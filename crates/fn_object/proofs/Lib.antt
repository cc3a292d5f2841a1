mod Counts
mod Faults
mod Laid
mod Pairs
mod Splitting
mod Taken
