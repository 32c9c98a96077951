-- Facts about the bytes of a line, and about writing them, in the order to read them.
-- The proof of each function stands in the folder of its name.
pub mod Parts
pub mod Fronts
pub mod Apart
pub mod Examples
