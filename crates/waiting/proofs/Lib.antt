-- What is asked of a caller, and how a call ends.
pub mod Finishing
pub mod Callers
