mod Copies
mod Listed
