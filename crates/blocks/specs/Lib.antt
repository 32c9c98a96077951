-- The block of a thread, and what loading, storing and a tick do to it.
pub mod Blocks
