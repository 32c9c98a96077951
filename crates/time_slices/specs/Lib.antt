-- What a tick does.
pub mod Ticks
