-- The lemmas of the bill as a whole. The proof of each function stands in the folder of its name.
pub mod Cases
