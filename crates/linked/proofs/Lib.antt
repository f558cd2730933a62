mod Telling
mod Walks
