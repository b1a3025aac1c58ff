pub mod Names
pub mod Ends
pub mod Streams
pub mod StreamWords
