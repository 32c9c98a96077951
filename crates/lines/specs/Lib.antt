-- The inner step of an interrupt.
pub mod Firing
