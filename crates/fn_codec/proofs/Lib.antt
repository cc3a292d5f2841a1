mod Escapes
mod Texts
