-- The lemmas of the tools for C.
pub mod Entries
