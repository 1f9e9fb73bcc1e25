pub mod Words
pub mod Numbers
pub mod StateWords
pub mod Replies
pub mod Transcripts
