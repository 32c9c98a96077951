-- What leaving its place asks and does.
pub mod Threads
