-- The lemmas of the summary, in the order to read them.
-- A proof of a method stands in its own folder under Summary.
pub mod Masks
pub mod Tops
pub mod Words
pub mod Marked
pub mod Found
