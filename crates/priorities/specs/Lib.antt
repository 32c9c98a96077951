-- What a change of priority asks and does.
pub mod Priorities
