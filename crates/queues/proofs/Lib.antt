-- The lemmas of the queues, in the order to read them. The proof of a function stands in a folder of its name.
pub mod Changed
pub mod Joining
pub mod Leaving
