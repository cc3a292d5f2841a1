mod Below
mod CutUp
mod Fielded
mod Firsts
mod Matched
mod Starts
