-- The lemmas of call 12. The proof of a function stands in a folder of its name.
pub mod Opening
