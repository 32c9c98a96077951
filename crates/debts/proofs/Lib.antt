-- The lemmas of the steps on debts, in the order to read them. The proof of a function stands in a folder of its name.
pub mod Told
pub mod Joining
pub mod Noting
pub mod Ending
pub mod Firsts
pub mod Beginning
