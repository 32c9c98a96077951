-- What the entry points for C come to.
pub mod Entries
