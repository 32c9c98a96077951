-- What the entry points for C come to that are not the core's.
pub mod Entries
