-- How a count goes on, call by call, and the entry's cases.
pub mod Counting
