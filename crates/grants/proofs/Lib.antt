-- The memory of the grants, and what the functions do with it, in the order to read it.
pub mod Memory
pub mod Passing
pub mod Stores
