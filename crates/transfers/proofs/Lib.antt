-- The lemmas of the calls, in the order to read them. The proof of a function stands in a folder of its name.
pub mod Creating
pub mod Firsts
pub mod Queueing
pub mod Handing
pub mod Taking
