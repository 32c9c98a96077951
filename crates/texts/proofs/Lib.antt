-- Facts about texts and about writing them, in the order to read them.
-- The proof of each function stands in the folder of its name.
pub mod Digits
pub mod Texts
pub mod Writing
pub mod Filing
pub mod Apart
