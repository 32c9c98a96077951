-- Facts about the bytes of a bill, in the order to read them.
-- The proof of each function stands in the folder of its name.
pub mod Parts
pub mod Entries
