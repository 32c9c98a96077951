-- The lemmas of create and destroy, in the order to read them. A function's proof stands in a folder of its name.
pub mod Leaving
pub mod Creating
pub mod Destroying
