-- The lemmas of the delete, in the order to read them. The proof of a function stands in a folder of its name.
pub mod Closing
pub mod Removing
pub mod Deleting
