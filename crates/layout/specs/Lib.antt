-- The memory of a state, in the order to read it.
pub mod Addresses
pub mod Words
pub mod Shows
pub mod Decode
pub mod Tests
