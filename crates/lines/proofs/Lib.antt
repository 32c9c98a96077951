-- The lemmas of the calls of interrupt lines.
pub mod Firing
pub mod Awaiting
