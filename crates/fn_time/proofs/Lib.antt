mod Characters
mod Clocks
mod Goes
mod Letters
mod Parsed
mod Showing
mod Steps
mod UtcTexts
