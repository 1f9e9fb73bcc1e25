mod Descending
mod Entries
mod Gathering
mod Given
