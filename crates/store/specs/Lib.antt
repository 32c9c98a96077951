-- The contracts of the steps on single entries, in the order to read them.
pub mod Steps
pub mod Store
pub mod Readings
pub mod Levels
