mod Counted
mod Cuts
mod Searched
mod Sliced
